-- The end of a piece of members lies behind its first one, and within the list.
use Rattle.std.proofs.Common.{◌<◌, ◌≤◌, ◌-◌, length}
use Rattle.pkjson.proofs.pieces.Weighed.members_end.Given as goal

abbrev pub invariant-loop-end : goal.invariant-loop-end
invariant-loop-end l = (l.first < l.end) × (l.end ≤ length l.members)

abbrev pub decreases-loop-end : goal.decreases-loop-end
decreases-loop-end l = length l.members - l.end
