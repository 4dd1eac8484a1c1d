-- Faultless instructions have a run past them: one whose answers are all new objects.
use Rattle.pkcheck.proofs.Wholes.NewRuns.{faultless_is_run}
use Rattle.pkcheck.proofs.laws.faultless_is_run.Goals as goal

pub returns : goal.returns
returns c = faultless_is_run c.steps.ensures
