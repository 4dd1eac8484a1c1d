-- Instructions without a fault are accepted, so what is refused lies behind all of them.
use Rattle.pkcheck.proofs.Wholes.RefusedBehind.{refused_behind}
use Rattle.pkcheck.proofs.laws.refused_behind.Goals as goal

pub returns : goal.returns
returns c = refused_behind c.one_answer.ensures c.growth.ensures.begun.nothing
    c.one_sequence.ensures.front c.one_sequence.ensures.goes_on
