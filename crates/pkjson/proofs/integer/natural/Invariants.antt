-- The value is that of the upper bytes passed, and below 2^63.
use Rattle.std.proofs.Common.{◌≡◌, ◌≤◌, ◌<◌, ◌^◌, drop, length}
use Rattle.pkjson.specs.Integers.{natural}
use Rattle.pkjson.proofs.integer.natural.Given as goal

abbrev pub invariant-loop-place : goal.invariant-loop-place
invariant-loop-place l = (l.place ≤ length l.bytes)
    × (l.value ≡ natural l.flip (drop l.place l.bytes)) × (l.value < 2 ^ 63)

abbrev pub decreases-loop-place : goal.decreases-loop-place
decreases-loop-place l = l.place
