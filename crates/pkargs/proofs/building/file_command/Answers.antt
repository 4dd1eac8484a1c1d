-- Help texts change no rule, so the command has that of its FILE alone.
use Rattle.std.proofs.Common.{◌∙◌, ap}
use Rattle.std.proofs.lemmas.Result.{IfOk-weaker}
use Rattle.clap.specs.Simple.{app_of_fields}
use Rattle.clap.specs.Words.{new_app}
use Rattle.pkargs.specs.Command.{IsLocal, file_app, file_rule}
use Rattle.pkargs.proofs.MoreArguments.{argued, globals}
use Rattle.pkargs.proofs.building.file_command.Goals as goal

pub returns : goal.returns
returns c =
    let named = ap app_of_fields c.after_help.ensures ∙ ap app_of_fields c.about.ensures
    ∙ c.new.ensures.app in
    let none = ap globals c.after_help.ensures ∙ ap globals c.about.ensures ∙ c.new.ensures.local in
    IfOk-weaker c.arg.result _ (IsLocal (file_app c.args.name.now))
    (λ r h. argued c.after_help.result r c.file_argument.result (new_app c.args.name.now) file_rule
    (named, none) c.file_argument.ensures.rule c.file_argument.ensures.local h) c.arg.ensures
