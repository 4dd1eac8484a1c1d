-- As no spelling begins another, bytes have one instruction at their front, and one sequence.
use Rattle.pkread.proofs.Loops.OneSequence.{one_front, one_sequence, sequence_goes_on}
use Rattle.pkread.proofs.laws.one_sequence.Goals as goal

pub returns-clause-front : goal.returns-clause-front
returns-clause-front c = one_front c.one_spelling.ensures

pub returns-clause-one : goal.returns-clause-one
returns-clause-one c = one_sequence c.one_spelling.ensures

pub returns-clause-goes_on : goal.returns-clause-goes_on
returns-clause-goes_on c = sequence_goes_on c.one_spelling.ensures
