-- A memo without room for the top of the stack is a fault of the move that stores it.
use Rattle.std.proofs.lemmas.Result.{IfErr-weaker}
use Rattle.pkstack.proofs.Moved.{stuffed, stored_is}
use Rattle.pkstack.proofs.moves.remember.Goals as goal

pub returns-clause-err : goal.returns-clause-err
returns-clause-err g c = IfErr-weaker c.store.result _ _
    (λ r h. (
      h.0,
      stuffed c.args.limits.now 0 _ c.args.stack.now _ r
          (stored_is (record { entries = c.args.stack.now; memo = c.args.memo.now }) c.args.number _
          c.in_ok-value.ensures.ok) h.1,
    )) c.store.ensures.err
