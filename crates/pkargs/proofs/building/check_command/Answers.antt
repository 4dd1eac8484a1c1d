-- Argument by argument, `check` gets the rules of its six arguments, unless memory is refused.
use Rattle.std.proofs.Common.{◌∙◌, ap, codes}
use Rattle.std.proofs.lemmas.Result.{IfOk-weaker}
use Rattle.clap.specs.Simple.{app_of_fields}
use Rattle.clap.specs.Words.{App, new_app, with_rule}
use Rattle.clap.specs.declared.builder.value_parser.ValueParser.{ValueParser}
use Rattle.pkargs.specs.Command.{IsLocal, all_rule, allow_rule, bill_rule, file_rule, old_rule}
use Rattle.pkargs.specs.Command.{one_rule}
use Rattle.pkargs.proofs.MoreArguments.{argued, argued_if, globals}
use Rattle.pkargs.proofs.building.check_command.Goals as goal

-- with one argument, two and so on
abbrev bare : App
bare = new_app (codes "check")

abbrev first : App
first = with_rule bare allow_rule

abbrev second : ValueParser → App
second parser = with_rule first (old_rule parser)

abbrev third : ValueParser → App
third parser = with_rule (second parser) all_rule

abbrev fourth : ValueParser → App
fourth parser = with_rule (third parser) one_rule

abbrev fifth : ValueParser → App
fifth parser = with_rule (fourth parser) bill_rule

pub returns : goal.returns
returns c =
    let named = ap app_of_fields c.after_help.ensures ∙ ap app_of_fields c.about.ensures
    ∙ c.new.ensures.app in
    let none = ap globals c.after_help.ensures ∙ ap globals c.about.ensures ∙ c.new.ensures.local in
    let allow = IfOk-weaker c.arg-command.result _ (IsLocal first)
    (λ r h. argued c.after_help.result r c.allow_option.result bare allow_rule (named, none)
    c.allow_option.ensures.rule c.allow_option.ensures.local h) c.arg-command.ensures in
    let parser = c.old_option.ensures.rule.0 in
    let old = argued_if c.with_argument-command.result c.arg-command.result c.old_option.result
    first (old_rule parser) allow c.old_option.ensures.rule.2 c.old_option.ensures.local
    c.with_argument-command.ensures in
    let all = argued_if c.with_argument-command-2.result c.with_argument-command.result
    c.all_flag.result (second parser) all_rule old c.all_flag.ensures.rule c.all_flag.ensures.local
    c.with_argument-command-2.ensures in
    let one = argued_if c.with_argument-command-3.result c.with_argument-command-2.result
    c.one_flag.result (third parser) one_rule all c.one_flag.ensures.rule
    c.one_flag.ensures.local c.with_argument-command-3.ensures in
    let bill = argued_if c.with_argument-command-4.result c.with_argument-command-3.result
    c.bill_flag.result (fourth parser) bill_rule one c.bill_flag.ensures.rule
    c.bill_flag.ensures.local c.with_argument-command-4.ensures in
    let file = argued_if c.with_argument.result c.with_argument-command-4.result
    c.file_argument.result (fifth parser) file_rule bill c.file_argument.ensures.rule
    c.file_argument.ensures.local c.with_argument.ensures in
    IfOk-weaker c.with_argument.result _ _ (λ r h. (parser, c.old_option.ensures.rule.1, h)) file
