-- A piece of items has at least one item, and ends among them.
use Rattle.std.proofs.Common.{◌<◌, ◌≤◌, ◌-◌, length}
use Rattle.pkjson.proofs.pieces.Weighed.items_end.Given as goal

abbrev pub invariant-loop-end : goal.invariant-loop-end
invariant-loop-end l = (l.first < l.end) × (l.end ≤ length l.items)

abbrev pub decreases-loop-end : goal.decreases-loop-end
decreases-loop-end l = length l.items - l.end
