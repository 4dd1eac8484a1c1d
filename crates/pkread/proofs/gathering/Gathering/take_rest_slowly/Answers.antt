-- A read that fails after some blocks lacks just the bytes that are left.
use Rattle.std.proofs.lemmas.Result.{err_from_is_err_and}
use Rattle.pkread.proofs.Bytes.Taken.{lacks_after}
use Rattle.pkread.proofs.gathering.Gathering.take_rest_slowly.Goals as goal

pub returns-in_err-left-clause-takes : goal.returns-in_err-left-clause-takes
returns-in_err-left-clause-takes g c =
    let p = err_from_is_err_and c.from_residual.result c.from_residual.ensures.1 in
    let k = c.blocks-2.invariant.took in
    let lacks = c.in_err-left.ensures.takes.1 in
    rw (p.1, p.2) (lacks_after c.args.count c.blocks-2.left k.0 _ _ _ _ k.1 k.2 lacks)
