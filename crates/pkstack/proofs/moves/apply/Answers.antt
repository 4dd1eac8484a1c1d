-- A push refused for want of room is a fault of MARK, and likewise of DUP.
use Rattle.std.proofs.Common.{refl}
use Rattle.pkstack.specs.declared.moves.Move.TheVariants.{PushesMark, Duplicates}
use Rattle.pkstack.specs.Shape.{Mark}
use Rattle.std.proofs.lemmas.Result.{IfErr-weaker}
use Rattle.pkstack.proofs.Moved.{grown, fault_of}
use Rattle.pkstack.proofs.moves.apply.Goals as goal

pub returns-in-PushesMark-clause-err : goal.returns-in-PushesMark-clause-err
returns-in-PushesMark-clause-err g c = rw c.in-PushesMark.is
    (IfErr-weaker c.push_mark.result _ _
    (λ r h. (
      h.0,
      refl,
      fault_of PushesMark c.args.limits.now 0 _ r tt
          (grown c.args.limits.now 0 _ Mark c.args.stack.now _ r refl h.1),
    )) c.push_mark.ensures.err)

pub returns-in-Duplicates-clause-err : goal.returns-in-Duplicates-clause-err
returns-in-Duplicates-clause-err g c = rw c.in-Duplicates.is
    (IfErr-weaker c.duplicate.result _ _
    (λ r h. (h.0, refl, fault_of Duplicates c.args.limits.now 0 _ r tt h.1))
    (c.duplicate.ensures.err c.args.memo.now))
