-- The objects passed are the topmost items, and the lower slots must have the rest.
use Rattle.std.proofs.Common.{◌≡◌, ◌≤◌, ◌-◌, [], length, take, drop}
use Rattle.pkjson.specs.Private.Seen.{seen_entries, numbers_of}
use Rattle.pkstack.specs.Shape.{items}
use Rattle.pkjson.proofs.slots.objects_place.Given as goal

abbrev pub invariant-loop-k : goal.invariant-loop-k
invariant-loop-k l = (l.place ≤ length l.slots)
    × (items l.count (seen_entries l.slots []) [] ≡ items (l.count - l._k)
    (seen_entries (take l.place l.slots) []) (numbers_of (drop l.place l.slots)))
