-- The objects from the place on are counted, but for the light ones, which are only numbered.
use Rattle.std.proofs.Common.{◌≡◌, ◌+◌, ◌-◌, ◌≤◌, drop, length, map}
use Rattle.pkload.specs.Private.Gathered.{with_lights}
use Rattle.pkload.specs.Private.Packed.{unpacked}
use Rattle.pkload.specs.Tally.{with_keys}
use Rattle.pkload.proofs.gathering.count_items.Given as goal

abbrev pub invariant-keys : goal.invariant-keys
invariant-keys l = (l.seen + l.place ≤ length l.codes) × (l.others ≤ l.seen)
    × (l.salted ≤ l.others) × (with_lights (l.seen - l.others) l.salted l.tally
    ≡ with_keys l.fn.tally (map unpacked (drop l.place l.codes)))

abbrev pub decreases-keys : goal.decreases-keys
decreases-keys l = l.place
