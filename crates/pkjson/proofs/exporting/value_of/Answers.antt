-- An object with a value within the limits fits the levels in which it is built.
use Rattle.pkjson.proofs.Parts.WeightAnswers.{value_fits, value_is}
use Rattle.pkjson.proofs.exporting.value_of.Goals as goal

pub build-requires-clause-fits : goal.build-requires-clause-fits
build-requires-clause-fits c = value_fits _ _ _ _ c.in_ok-judged.ensures.ok

pub returns-in-Ok-clause-ok : goal.returns-in-Ok-clause-ok
returns-in-Ok-clause-ok c = value_is _ _ _ _ c.in_ok-judged.ensures.ok _ c.in-Ok.ensures
