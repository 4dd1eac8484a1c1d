-- The slice of all slots is that of the lower ones, with the objects passed above them.
use Rattle.std.proofs.Common.{◌≡◌, ◌≤◌, [], length, take, drop}
use Rattle.pkjson.specs.Private.Seen.{seen_entries, numbers_of}
use Rattle.pkstack.specs.Shape.{slice}
use Rattle.pkjson.proofs.slots.mark_place.Given as goal

abbrev pub invariant-loop-place : goal.invariant-loop-place
invariant-loop-place l = (l.place ≤ length l.slots)
    × (slice (seen_entries l.slots []) [] ≡ slice (seen_entries (take l.place l.slots) [])
    (numbers_of (drop l.place l.slots)))

abbrev pub decreases-loop-place : goal.decreases-loop-place
decreases-loop-place l = l.place
