-- No bytes begin with two sequences, so of two lists at their front one begins the other.
use Rattle.pkcheck.proofs.Wholes.RefusedBehind.{one_begins}
use Rattle.pkcheck.proofs.laws.one_begins.Goals as goal

pub returns : goal.returns
returns c = one_begins c.one_sequence.ensures.front
