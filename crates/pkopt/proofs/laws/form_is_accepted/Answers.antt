-- The form has no fault but limits, and such a pickle is refused for nothing else.
use Rattle.pkopt.proofs.BothRuns.FormAccepted.{form_is_accepted}
use Rattle.pkopt.proofs.laws.form_is_accepted.Goals as goal

pub returns : goal.returns
returns c = form_is_accepted c.one_sequence.ensures.one c.refused_for_limits.ensures
