-- Reading goes on behind a STOP with one byte ahead, and bytes taken in turn are taken together.
use Rattle.pkread.proofs.Calls.Again.{no_byte_is_refused}
use Rattle.pkread.proofs.Bytes.Takes.{Takes-more}
use Rattle.pkread.proofs.Loops.Run.{reading_goes_on}
use Rattle.pkread.proofs.Bytes.Taken.{takes_none}
use Rattle.pkread.proofs.laws.rows.Goals as goal

pub returns-clause-begins : goal.returns-clause-begins
returns-clause-begins c = reading_goes_on

pub returns-clause-refused : goal.returns-clause-refused
returns-clause-refused c = no_byte_is_refused c.growth.ensures.begun c.one_answer.ensures

pub returns-clause-taking : goal.returns-clause-taking
returns-clause-taking c =
    record { none = takes_none; more = λ old between new first second p q. Takes-more p q }
