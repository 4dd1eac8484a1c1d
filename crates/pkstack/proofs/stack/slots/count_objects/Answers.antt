-- An object raises the count by one, a mark doesn't.
use Rattle.std.proofs.Common.{◌∙◌, arith, sym}
use Rattle.pkstack.proofs.Settled.{count_bar, count_object}
use Rattle.pkstack.proofs.stack.slots.count_objects.Goals as goal
use Rattle.pkstack.proofs.stack.slots.count_objects.Goals.{in-Object, in_default}

pub loop-slot-preserved : goal.loop-slot-preserved
loop-slot-preserved g c =
    elim c.match-slot.branch [
      | in-Object w ↦ let e = count_object c.args.slots.now c.loop-slot.slot-index _ _
          (omega arith) (sym c.slot-item.is ∙ sym c.slot.ensures ∙ w.in-Object.is) in
          (omega (arith, w.count-is), omega (arith, w.count-is, e))
      | in_default w ↦ let e = count_bar c.args.slots.now c.loop-slot.slot-index _
          (omega arith) (sym c.slot-item.is ∙ sym c.slot.ensures ∙ w.in_default.is) in
          (omega (arith, w.count-is), omega (arith, w.count-is, e))
    ]
