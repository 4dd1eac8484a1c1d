-- The rules of FILE and then of OUT make those of `optimize`.
use Rattle.std.proofs.Common.{◌∙◌, ap, codes}
use Rattle.std.proofs.lemmas.Result.{IfOk-weaker}
use Rattle.clap.specs.Simple.{app_of_fields}
use Rattle.clap.specs.Words.{App, new_app, with_rule}
use Rattle.pkargs.specs.Command.{IsLocal, file_rule, out_rule}
use Rattle.pkargs.proofs.MoreArguments.{argued, argued_if, globals}
use Rattle.pkargs.proofs.building.optimize_command.Goals as goal

abbrev bare : App
bare = new_app (codes "optimize")

pub returns : goal.returns
returns c =
    let named = ap app_of_fields c.after_help.ensures ∙ ap app_of_fields c.about.ensures
    ∙ c.new.ensures.app in
    let none = ap globals c.after_help.ensures ∙ ap globals c.about.ensures ∙ c.new.ensures.local in
    let file = IfOk-weaker c.arg-command.result _ (IsLocal (with_rule bare file_rule))
    (λ r h. argued c.after_help.result r c.file_argument.result bare file_rule (named, none)
    c.file_argument.ensures.rule c.file_argument.ensures.local h) c.arg-command.ensures in
    argued_if c.with_argument.result c.arg-command.result c.out_argument.result
    (with_rule bare file_rule) out_rule file c.out_argument.ensures.rule
    c.out_argument.ensures.local c.with_argument.ensures
