-- DUP pushes the top that it has read, so its only fault behind that is a full stack.
use Rattle.std.proofs.lemmas.Result.{IfErr-weaker}
use Rattle.pkstack.proofs.Moved.{grown, duplicated}
use Rattle.pkstack.proofs.moves.duplicate.Goals as goal

pub returns-clause-err : goal.returns-clause-err
returns-clause-err g c m = IfErr-weaker c.push.result _ _
    (λ r h. (
      h.0,
      grown c.args.limits.now 0 _ _ c.args.stack.now m r
          (duplicated (record { entries = c.args.stack.now; memo = m }) _ c.in_ok-value.ensures.ok)
          h.1,
    ))
    c.push.ensures.err
