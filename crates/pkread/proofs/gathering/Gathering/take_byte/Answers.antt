-- If no byte can be read, one byte is what the instruction lacks.
use Rattle.std.proofs.Common.{◌-◌, ◌<◌, arith, subst}
use Rattle.std.proofs.lemmas.Result.{err_from_is_err_and}
use Rattle.pkread.proofs.Bytes.Taken.{lacks_all}
use Rattle.pkread.specs.Rows.{all_bytes}
use Rattle.pkread.proofs.gathering.Gathering.take_byte.Goals as goal

pub returns-in_err-byte-clause-takes : goal.returns-in_err-byte-clause-takes
returns-in_err-byte-clause-takes g c =
    let p = err_from_is_err_and c.from_residual.result c.from_residual.ensures.1 in
    let none = c.in_err-byte.ensures in
    let room : all_bytes - c.self.inside.room < all_bytes = omega arith in
    let here = subst (λ v. v.taken < all_bytes) c.self.view_is room in
    rw (p.1, p.2) (lacks_all 1 _ _ _ (omega arith) here none.same none.taken none.err)
