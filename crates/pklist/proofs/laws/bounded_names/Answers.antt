-- Whoever calls the law gets the bound on the names of each list.
use Rattle.pklist.proofs.ListFile.ListBound.{names_are_bounded}
use Rattle.pklist.proofs.laws.bounded_names.Goals as goal

pub returns : goal.returns
returns c = names_are_bounded
