-- Each call of the builder sets its own field of the program, and help texts set none.
use Rattle.std.proofs.Common.{ap, true, ◌∙◌}
use Rattle.clap.specs.Words.{App, Shape}
use Rattle.clap.specs.Simple.{app_of_fields, on_top}
use Rattle.pkargs.proofs.building.bare_program.Goals as goal

abbrev versioned : App → App
versioned = on_top (λ (s : Shape). record s { has_version = true })

abbrev needy : App → App
needy = on_top (λ (s : Shape). record s { subcommand_required = true })

abbrev helpless : App → App
helpless = on_top (λ (s : Shape). record s { disable_help_subcommand = true })

pub returns : goal.returns
returns c =
    let named = ap app_of_fields c.about.ensures ∙ c.new.ensures.app in
    let told = ap app_of_fields c.after_help.ensures ∙ ap app_of_fields c.version.ensures
    ∙ ap versioned named in
    ap app_of_fields c.disable_help_subcommand.ensures
    ∙ ap helpless (ap app_of_fields c.subcommand_required.ensures ∙ ap needy told)
