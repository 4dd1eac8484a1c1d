-- The count is the number of objects among the slots passed so far.
use Rattle.std.proofs.Common.{◌≡◌, ◌≤◌, length, take}
use Rattle.pkstack.specs.Private.Slots.{values_of}
use Rattle.pkstack.proofs.stack.slots.count_objects.Given as goal

abbrev pub invariant-loop-slot : goal.invariant-loop-slot
invariant-loop-slot g l = (l.count ≤ l.slot-index)
    × (l.count ≡ length (values_of (take l.slot-index l.slots)))
