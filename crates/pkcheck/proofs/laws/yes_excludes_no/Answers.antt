-- A yes and a no read the same instructions, and none of them both has a fault and has none.
use Rattle.pkcheck.proofs.Wholes.Exclusive.{yes_excludes_no}
use Rattle.pkcheck.proofs.laws.yes_excludes_no.Goals as goal

pub returns : goal.returns
returns c = yes_excludes_no c.one_answer.ensures c.growth.ensures.begun.nothing
    c.one_sequence.ensures.front c.one_sequence.ensures.goes_on
