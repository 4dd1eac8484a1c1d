-- Each item of `genops` goes one instruction further, ends behind STOP, or is the refusal.
use Rattle.pkread.proofs.Loops.Walked.{end_is_walked, item_is_walked, refusal_is_walked}
use Rattle.pkread.proofs.Loops.Walked.{walk_begins}
use Rattle.pkread.proofs.laws.walks.Goals as goal

pub returns-clause-begins : goal.returns-clause-begins
returns-clause-begins c = walk_begins

pub returns-clause-given : goal.returns-clause-given
returns-clause-given c = item_is_walked

pub returns-clause-ended : goal.returns-clause-ended
returns-clause-ended c = end_is_walked

pub returns-clause-refused : goal.returns-clause-refused
returns-clause-refused c = refusal_is_walked
