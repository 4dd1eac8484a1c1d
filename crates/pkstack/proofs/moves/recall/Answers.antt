-- A fetch fails where the memo lacks the number or the stack lacks room, and nowhere else.
use Rattle.std.proofs.Common.{inl, sym, refl}
use Rattle.pkstack.specs.Shape.{NoMemo}
use Rattle.std.proofs.lemmas.Result.{IfErr-weaker}
use Rattle.pkstack.proofs.Moved.{grown, fetches, fetches_none}
use Rattle.pkstack.proofs.moves.recall.Goals as goal

pub returns-in-Some-clause-err : goal.returns-in-Some-clause-err
returns-in-Some-clause-err g c = IfErr-weaker c.push.result _ _
    (λ r h. (
      h.0,
      grown c.args.limits.now 0 _ _ c.args.stack.now c.args.memo.now r
          (fetches (record { entries = c.args.stack.now; memo = c.args.memo.now }) c.args.number _
          (sym c.in-Some.ensures)) h.1,
    )) c.push.ensures.err

pub returns-in-None-clause-err : goal.returns-in-None-clause-err
returns-in-None-clause-err g c = (
  refl,
  inl (
    NoMemo c.args.number,
    fetches_none
        (record { entries = c.args.stack.now; memo = c.args.memo.now }) c.args.number
        (sym c.in-None.ensures),
    refl,
  ),
)
