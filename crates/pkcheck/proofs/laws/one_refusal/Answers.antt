-- Bytes have one front and one fault, so they are refused at one place for one reason.
use Rattle.pkcheck.proofs.Wholes.OneRefusal.{one_refusal}
use Rattle.pkcheck.proofs.laws.one_refusal.Goals as goal

pub returns : goal.returns
returns c = one_refusal c.one_answer.ensures c.growth.ensures.begun.nothing
    c.one_sequence.ensures.front c.one_sequence.ensures.goes_on
