-- An object with a value within the limits fits the levels of its text, which is that value's.
use Rattle.pkjson.proofs.Parts.WeightAnswers.{value_fits, text_is}
use Rattle.pkjson.proofs.exporting.written.Goals as goal

pub text_of-requires-clause-fits : goal.text_of-requires-clause-fits
text_of-requires-clause-fits c = value_fits _ _ _ _ c.in_ok-judged.ensures.ok

pub returns-in-Ok-clause-ok : goal.returns-in-Ok-clause-ok
returns-in-Ok-clause-ok c = text_is _ _ _ _ c.in_ok-judged.ensures.ok _ c.in-Ok.ensures
