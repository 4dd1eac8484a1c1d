-- The bounds of the search stay in order, within the list, and come closer.
use Rattle.std.proofs.Common.{◌≤◌, ◌-◌, length}
use Rattle.pkjson.proofs.ranks.place_of.Given as goal

abbrev pub invariant-loop-low : goal.invariant-loop-low
invariant-loop-low l = (l.low ≤ l.high) × (l.high ≤ length l.texts)

abbrev pub decreases-loop-low : goal.decreases-loop-low
decreases-loop-low l = l.high - l.low
