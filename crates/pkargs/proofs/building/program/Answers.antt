-- Subcommand by subcommand, the program gets all five, unless memory is refused.
use Rattle.std.proofs.Common.{◌≡◌, codes, Ok}
use Rattle.clap.specs.Words.{App, app_of, with_subcommand}
use Rattle.clap.specs.declared.Command.{Command}
use Rattle.clap.specs.declared.builder.value_parser.ValueParser.{ValueParser}
use Rattle.pkargs.specs.Command.{IsCheck, IsLocal, TakesOldWords, bare_app, check_app, file_app}
use Rattle.pkargs.specs.Command.{optimize_app, program_app}
use Rattle.pkargs.proofs.MoreArguments.{joined, joined_if}
use Rattle.pkargs.proofs.building.program.Goals as goal

-- with `check` among the subcommands
abbrev Checks : (ValueParser → App) → Command → Type 0
Checks app command =
    (parser : ValueParser) × TakesOldWords parser × (app_of command ≡ app parser)

abbrev dis_app : App
dis_app = file_app (codes "dis")

abbrev imports_app : App
imports_app = file_app (codes "imports")

-- with one subcommand, two and so on
abbrev first : App
first = with_subcommand bare_app dis_app.top

abbrev second : ValueParser → App
second parser = with_subcommand first (check_app parser).top

abbrev third : ValueParser → App
third parser = with_subcommand (second parser) imports_app.top

abbrev fourth : ValueParser → App
fourth parser = with_subcommand (third parser) optimize_app.top

pub returns : goal.returns
returns c =
    let dis = joined_if (λ x. app_of x ≡ bare_app) (IsLocal dis_app) (λ z. app_of z ≡ first)
    c.with_subcommand-program.result (Ok c.bare_program.result) c.file_command-dis.result
    (λ x y z p q h. joined x y z bare_app dis_app p q h) c.bare_program.ensures
    c.file_command-dis.ensures c.with_subcommand-program.ensures in
    let check = joined_if (λ x. app_of x ≡ first) IsCheck (Checks second)
    c.with_subcommand-program-2.result c.with_subcommand-program.result c.check_command.result
    (λ x y z p q h. (q.0, q.1, joined x y z first (check_app q.0) p q.2 h)) dis
    c.check_command.ensures c.with_subcommand-program-2.ensures in
    let imports = joined_if (Checks second) (IsLocal imports_app) (Checks third)
    c.with_subcommand-program-3.result c.with_subcommand-program-2.result
    c.file_command-imports.result
    (λ x y z p q h. (p.0, p.1, joined x y z (second p.0) imports_app p.2 q h)) check
    c.file_command-imports.ensures c.with_subcommand-program-3.ensures in
    let optimize = joined_if (Checks third) (IsLocal optimize_app) (Checks fourth)
    c.with_subcommand-program-4.result c.with_subcommand-program-3.result
    c.optimize_command.result
    (λ x y z p q h. (p.0, p.1, joined x y z (third p.0) optimize_app p.2 q h)) imports
    c.optimize_command.ensures c.with_subcommand-program-4.ensures in
    joined_if (Checks fourth) (IsLocal (file_app (codes "json"))) (Checks program_app)
    c.with_subcommand.result c.with_subcommand-program-4.result c.file_command-json.result
    (λ x y z p q h. (p.0, p.1, joined x y z (fourth p.0) (file_app (codes "json")) p.2 q h))
    optimize c.file_command-json.ensures c.with_subcommand.ensures
