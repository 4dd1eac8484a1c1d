-- The weights of the objects from the place on are added up, and the deepest of them is found.
use Rattle.std.proofs.Common.{◌≡◌, ◌≤◌, drop, length, map, min}
use Rattle.pkload.specs.Heft.{deepest_of, weights_of}
use Rattle.pkload.specs.Private.Packed.{unpacked}
use Rattle.pkload.proofs.gathering.tied_slowly.Given as goal

abbrev pub invariant-items : goal.invariant-items
invariant-items l = (l.place ≤ length l.codes)
    × (l.held ≡ min 1_048_575 (weights_of (map unpacked (drop l.place l.codes))))
    × (l.deepest ≡ deepest_of (map unpacked (drop l.place l.codes)))
    × (l.deepest ≤ 1_023)

abbrev pub decreases-items : goal.decreases-items
decreases-items l = l.place
