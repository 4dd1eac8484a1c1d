-- An object's weight tells whether it is too deep, has too many values, or has a value.
use Rattle.std.proofs.Common.{refl, ◌∙◌}
use Rattle.pkjson.proofs.Parts.WeightAnswers.{blank_trusted, all_deeper, too_many, has_value}
use Rattle.pkjson.proofs.exporting.judged.Goals as goal

pub weigh-requires-clause-trusted : goal.weigh-requires-clause-trusted
weigh-requires-clause-trusted c = blank_trusted _ _ _ _
    (c.deref_mut.ensures.value ∙ c.in-Ok.ensures)

pub returns-in_default-weigh-clause-err : goal.returns-in_default-weigh-clause-err
returns-in_default-weigh-clause-err c = all_deeper _ _ _ c.in_default-weigh.ensures.weight

pub returns-then-weight-most-clause-err : goal.returns-then-weight-most-clause-err
returns-then-weight-most-clause-err c = too_many _ c.args.place _ _ _ _ refl
    c.in-Some.ensures.weight c.in-Some.ensures.bounds.depth c.if-weight-most.true

pub returns-clause-ok : goal.returns-clause-ok
returns-clause-ok c = has_value _ c.args.place _ _ _ _ refl c.in-Some.ensures.weight
    c.in-Some.ensures.bounds.depth c.if-weight-most.false
