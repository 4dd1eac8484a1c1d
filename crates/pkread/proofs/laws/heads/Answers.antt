-- Each outcome of `next_head` keeps what a loop knows: held, lent, skipped, ended or refused.
use Rattle.pkread.proofs.Calls.AtHand.{taking_twice}
use Rattle.pkread.proofs.Loops.Run.{end_of_heads, head_is_read, lent_is_read, passed_is_read}
use Rattle.pkread.proofs.Loops.Run.{reading_begins, refusal_of_heads}
use Rattle.pkread.proofs.laws.heads.Goals as goal

pub returns-clause-begins : goal.returns-clause-begins
returns-clause-begins c = reading_begins

pub returns-clause-given : goal.returns-clause-given
returns-clause-given c = head_is_read

pub returns-clause-passed : goal.returns-clause-passed
returns-clause-passed c = passed_is_read

pub returns-clause-ended : goal.returns-clause-ended
returns-clause-ended c = end_of_heads

pub returns-clause-refused : goal.returns-clause-refused
returns-clause-refused c = refusal_of_heads

pub returns-clause-lent : goal.returns-clause-lent
returns-clause-lent c = lent_is_read

pub returns-clause-twice : goal.returns-clause-twice
returns-clause-twice c = taking_twice
