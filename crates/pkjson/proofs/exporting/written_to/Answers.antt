-- Writing an object with a value within the limits appends the text of that value.
use Rattle.pkjson.proofs.Parts.WeightAnswers.{text_written, value_fits, whole_answered}
use Rattle.pkjson.proofs.exporting.written_to.Goals as goal

pub write_value-requires-clause-fits : goal.write_value-requires-clause-fits
write_value-requires-clause-fits g c = value_fits _ _ _ _ c.in-Ok.ensures.ok

pub returns-in_ok-write_value-in-Ok : goal.returns-in_ok-write_value-in-Ok
returns-in_ok-write_value-in-Ok g c = text_written _ c.args.limits.now c.args.place _ _ _ _
    c.deepest-levels.ensures.value c.most.ensures.value c.in-Ok.ensures.ok
    c.in_ok-write_value-in-Ok.ensures

pub write_one-requires-clause-fits : goal.write_one-requires-clause-fits
write_one-requires-clause-fits g c = value_fits _ _ _ _ c.in-Ok.ensures.ok

pub returns-then-is_one_piece : goal.returns-then-is_one_piece
returns-then-is_one_piece g c = whole_answered _ c.args.limits.now c.args.place _ _ _ _
    c.deepest-levels.ensures.value c.most.ensures.value c.in-Ok.ensures.ok c.write_one.result
    c.write_one.ensures
