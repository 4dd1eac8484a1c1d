-- Without a byte there is no code, and a byte that is no opcode's code is refused as unknown.
use Rattle.std.proofs.Common.{refl}
use Rattle.std.proofs.lemmas.Result.{err_from_is_err_and}
use Rattle.pkread.proofs.Bytes.Judged.{code_stops, unknown_stops}
use Rattle.pkread.proofs.gathering.Gathering.take_op.Goals as goal

pub returns-in_err-code-clause-takes : goal.returns-in_err-code-clause-takes
returns-in_err-code-clause-takes g c =
    let p = err_from_is_err_and c.from_residual.result c.from_residual.ensures.1 in
    let why = c.in_err-code.ensures.takes in
    rw (p.1, p.2) (λ limit. code_stops c.growth.ensures.begun limit _ _ _ refl why)

pub returns-in_default-clause-takes : goal.returns-in_default-clause-takes
returns-in_default-clause-takes g c = λ limit.
    let took = c.in_ok-code.ensures.takes in
    unknown_stops c.growth.ensures.begun limit c.in_ok-code.code _ _ refl took
    c.in_default.ensures.none
