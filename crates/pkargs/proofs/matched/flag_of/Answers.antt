-- A text that names no flag is that of neither value.
use Rattle.std.proofs.Common.{◌∙◌}
use Rattle.pkargs.proofs.NoJob.{if_none_map, some_same}
use Rattle.pkargs.proofs.matched.flag_of.Goals as goal

pub returns-clause-none : goal.returns-clause-none
returns-clause-none c flag = if_none_map c.flag_named.result
    (λ other given. other (some_same _ _ (c.in_ok-text_of.ensures ∙ given)))
    (c.flag_named.ensures.none flag)
