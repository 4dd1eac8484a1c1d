-- Every choice of pickles gives both flags a value, so a missing one means that there is none.
use Rattle.std.proofs.Common.{◌∙◌, ap, Some}
use Rattle.pkargs.proofs.NoJob.{all_flag, all_shown, if_none, one_flag, one_shown}
use Rattle.pkargs.proofs.matched.pickles_of.Goals as goal

pub returns-in_err-all-clause-none : goal.returns-in_err-all-clause-none
returns-in_err-all-clause-none c pickles = if_none c.from_residual.result
    (λ all one. c.in_err-all.ensures.none (all_flag pickles) (all ∙ ap Some (all_shown pickles)))

pub returns-in_err-one-clause-none : goal.returns-in_err-one-clause-none
returns-in_err-one-clause-none c pickles = if_none c.from_residual-in_err-one.result
    (λ all one. c.in_err-one.ensures.none (one_flag pickles) (one ∙ ap Some (one_shown pickles)))
