-- A code and what is found behind it are a whole instruction or one reason, and no more is held
-- than the longest.
use Rattle.std.proofs.Common.{refl}
use Rattle.std.proofs.lemmas.Result.{err_from_is_err_and}
use Rattle.pkread.proofs.Bytes.Judged.{bounded, found_more, refuses_of, whole_taken}
use Rattle.pkread.proofs.gathering.Gathering.gather.Goals as goal

pub returns-in_err-op-clause-takes : goal.returns-in_err-op-clause-takes
returns-in_err-op-clause-takes g c =
    let p = err_from_is_err_and c.from_residual.result c.from_residual.ensures.1 in
    let limit = c.args.self.now.limits.counted in
    rw (p.1, p.2) (refuses_of c.one_answer.ensures limit _ _ _ refl
    (c.in_err-op.ensures.takes limit))

pub returns-clause-takes : goal.returns-clause-takes
returns-clause-takes g c =
    let limit = c.args.self.now.limits.counted in
    let behind = rw c.take_op.ensures.keeps.1 at c.gather_behind.ensures.takes in
    let takes = found_more limit _ _ _ _ c.gather_behind.result c.in_ok-op.ensures.takes behind in
    whole_taken c.growth.ensures.begun c.one_answer.ensures _ _ _ c.gather_behind.result refl takes

pub returns-clause-bound : goal.returns-clause-bound
returns-clause-bound g c =
    let behind = rw c.take_op.ensures.keeps.1 at c.gather_behind.ensures.takes in
    bounded c.growth.ensures.begun _ _ _ c.gather_behind.result behind
