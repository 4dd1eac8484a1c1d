-- With no fault but limits, a no has a limit, an allocation or a failed read as its reason.
use Rattle.pkcheck.proofs.Wholes.Exclusive.{refused_for_limits}
use Rattle.pkcheck.proofs.laws.refused_for_limits.Goals as goal

pub returns : goal.returns
returns c = refused_for_limits c.one_answer.ensures c.growth.ensures.begun.nothing
    c.one_sequence.ensures.front c.one_sequence.ensures.goes_on
