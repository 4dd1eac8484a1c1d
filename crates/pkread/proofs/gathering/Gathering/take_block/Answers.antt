-- A failed read took nothing, so all the bytes asked for are still lacking.
use Rattle.std.proofs.Common.{◌-◌, ◌<◌, arith, subst}
use Rattle.std.proofs.lemmas.Result.{err_from_is_err_and}
use Rattle.pkread.proofs.Bytes.Taken.{lacks_all}
use Rattle.pkread.specs.Rows.{all_bytes}
use Rattle.pkread.proofs.gathering.Gathering.take_block.Goals as goal

pub returns-in_err-n-clause-takes : goal.returns-in_err-n-clause-takes
returns-in_err-n-clause-takes g c =
    let p = err_from_is_err_and c.from_residual.result c.from_residual.ensures.1 in
    let none = c.in_err-n.ensures in
    let some : 0 < c.args.left = c.requires in
    let left = c.if-room-eq0.false in
    let room : all_bytes - c.self.inside.room < all_bytes = omega arith in
    let here = subst (λ v. v.taken < all_bytes) c.self.view_is room in
    rw (p.1, p.2) (
      none.same,
      lacks_all c.args.left _ _ _ some here none.same none.taken none.err,
    )
