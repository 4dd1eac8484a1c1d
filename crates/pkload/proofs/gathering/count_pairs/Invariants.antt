-- The keys from the place on are counted, but for the light ones, which are only numbered.
use Rattle.std.proofs.Common.{◌≡◌, ◌+◌, ◌-◌, ◌≤◌, drop, length, map, true}
use Rattle.pkstack.specs.Shape.{is_even}
use Rattle.pkload.specs.Keys.{every_other}
use Rattle.pkload.specs.Private.Gathered.{with_lights}
use Rattle.pkload.specs.Private.Packed.{unpacked}
use Rattle.pkload.specs.Tally.{with_keys}
use Rattle.pkload.proofs.gathering.count_pairs.Given as goal

abbrev pub invariant-pairs : goal.invariant-pairs
invariant-pairs l = (l.seen + l.place ≤ length l.codes) × (l.others ≤ l.seen)
    × (l.salted ≤ l.others) × (is_even (map unpacked (drop l.place l.codes)) ≡ true)
    × (with_lights (l.seen - l.others) l.salted l.tally
    ≡ with_keys l.fn.tally (every_other (map unpacked (drop l.place l.codes))))

abbrev pub decreases-pairs : goal.decreases-pairs
decreases-pairs l = l.place
