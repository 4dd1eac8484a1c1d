-- The count is that of the objects among the slots passed, and at most the index.
use Rattle.std.proofs.Common.{◌≡◌, ◌≤◌, length, take}
use Rattle.pkstack.specs.Private.Slots.{values_of}
use Rattle.pkstack.proofs.stack.operands.Operands.get.Given as goal

abbrev pub invariant-loop-slot : goal.invariant-loop-slot
invariant-loop-slot g l = (l.before ≤ l.slot-index) × (l.before ≤ l.index)
    × (l.before ≡ length (values_of (take l.slot-index l.slot-items)))
