-- Each outcome of `next` keeps what a loop knows: given, lent, ended at STOP or refused.
use Rattle.pkread.proofs.Calls.AtHand.{taking_twice}
use Rattle.pkread.proofs.Loops.Run.{end_is_read, lent_is_read, next_is_read, reading_begins}
use Rattle.pkread.proofs.Loops.Run.{refusal_is_read}
use Rattle.pkread.proofs.laws.nexts.Goals as goal

pub returns-clause-begins : goal.returns-clause-begins
returns-clause-begins c = reading_begins

pub returns-clause-given : goal.returns-clause-given
returns-clause-given c = next_is_read

pub returns-clause-ended : goal.returns-clause-ended
returns-clause-ended c = end_is_read

pub returns-clause-refused : goal.returns-clause-refused
returns-clause-refused c = refusal_is_read

pub returns-clause-lent : goal.returns-clause-lent
returns-clause-lent c = lent_is_read

pub returns-clause-twice : goal.returns-clause-twice
returns-clause-twice c = taking_twice
