-- The laws of a step are those that were proved of accepted and of refused steps.
use Rattle.pkmachine.proofs.Coverage.LawsOfSteps.{step_laws}
use Rattle.pkmachine.proofs.laws.steps.Goals as goal

pub returns : goal.returns
returns c = step_laws
