-- Every place from the current index on is at or above the height.
use Rattle.std.proofs.Common.{◌≤◌, ◌<◌, ℕ, length, get_or}
use Rattle.pkstack.proofs.stack.slots.marks_below.Given as goal

abbrev pub invariant-loop-left : goal.invariant-loop-left
invariant-loop-left l = (l.left ≤ length l.places)
    × ((i : ℕ) → l.left ≤ i → i < length l.places → l.count ≤ get_or l.places i 0)

abbrev pub decreases-loop-left : goal.decreases-loop-left
decreases-loop-left l = l.left
