-- A word that names no setting of old strings is the word of none.
use Rattle.std.proofs.Common.{◌∙◌}
use Rattle.pkargs.proofs.NoJob.{if_none_map, some_same}
use Rattle.pkargs.proofs.matched.old_of.Goals as goal

pub returns-clause-none : goal.returns-clause-none
returns-clause-none c old = if_none_map c.old_named.result
    (λ other given. other (some_same _ _ (c.in_ok-text_of.ensures ∙ given)))
    (c.old_named.ensures.none old)
