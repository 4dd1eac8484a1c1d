-- The arena stands where the plain run of the pickle does before the bytes that are left.
use Rattle.std.proofs.Common.{◌≤◌, ◌-◌, length}
use Rattle.pkjson.proofs.Runs.NextInstruction.{Replaying}
use Rattle.pkjson.proofs.replay.replay.Given as goal

abbrev pub invariant-instructions : goal.invariant-instructions
invariant-instructions l = (length l.rest ≤ length l.bytes)
    × Replaying l.limits l.bytes l.rest (length l.bytes - length l.rest) l.arena

abbrev pub decreases-instructions : goal.decreases-instructions
decreases-instructions l = length l.rest
