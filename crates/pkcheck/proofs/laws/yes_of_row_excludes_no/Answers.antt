-- Two checks of a row read the same pickles, so neither refuses one that the other accepts.
use Rattle.pkcheck.proofs.Wholes.ExclusiveRows.{yes_of_row_excludes_no}
use Rattle.pkcheck.proofs.laws.yes_of_row_excludes_no.Goals as goal

pub returns : goal.returns
returns c = yes_of_row_excludes_no c.one_answer.ensures c.growth.ensures.begun.nothing
    c.one_sequence.ensures.front c.one_sequence.ensures.goes_on c.one_sequence.ensures.one
