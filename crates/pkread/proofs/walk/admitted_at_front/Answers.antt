-- A scan has one answer, so its fault, or the objection, is the only reason to refuse.
use Rattle.std.proofs.Common.{sym, ◌∙◌}
use Rattle.pkops.specs.declared.Reason.TheVariants.{Truncated}
use Rattle.pkread.proofs.Bytes.Takes.{fault_is_amiss}
use Rattle.pkread.proofs.Reasons.Objections.{objection_is_amiss}
use Rattle.pkread.proofs.Reasons.OneRow.{alone, amiss_alone}
use Rattle.pkread.proofs.walk.admitted_at_front.Goals as goal

pub returns-in-Some-clause-err : goal.returns-in-Some-clause-err
returns-in-Some-clause-err c = amiss_alone c.one_answer.ensures _ _ _
    (objection_is_amiss c.in-Whole.ensures.answer (sym c.objection_to.ensures ∙ c.in-Some.is))

pub returns-in-More-clause-err : goal.returns-in-More-clause-err
returns-in-More-clause-err c = alone c.one_answer.ensures _ _ Truncated c.in-More.ensures.answer

pub returns-in-Bad-clause-err : goal.returns-in-Bad-clause-err
returns-in-Bad-clause-err c = rw c.reason_of.ensures
    (amiss_alone c.one_answer.ensures _ _ _ (fault_is_amiss _ _ _ c.in-Bad.ensures.answer))
