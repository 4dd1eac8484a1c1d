-- Whoever calls the law gets what a binary search over pairs finds.
use Rattle.pklist.proofs.BinarySearch.{halving_is_right}
use Rattle.pklist.proofs.laws.halving.Goals as goal

pub returns : goal.returns
returns c = halving_is_right
