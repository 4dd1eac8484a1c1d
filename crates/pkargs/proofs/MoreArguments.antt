-- Commands that grow by an argument or a subcommand, where an earlier step may have failed.
use Rattle.std.proofs.Common.{◌≡◌, ◌∙◌, ◌||◌, ap, ap₂, Bool, false, Result, Ok, Err}
use Rattle.std.specs.Prelude.{IfOk, IsOkAnd}
use Rattle.clap.specs.Words.{AddsArg, AddsSubcommand, App, Rule, Shape, app_of, rule_of}
use Rattle.clap.specs.Words.{with_rule, with_subcommand}
use Rattle.clap.specs.declared.Command.{Command}
use Rattle.clap.specs.declared.builder.arg.Arg.{Arg}
use Rattle.clap.specs.declared.builder.command.Command.{Command-F}
use Rattle.pkargs.specs.Command.{IsLocal}

-- whether a command has an argument that its subcommands share
abbrev pub globals : Command-F Command → Bool
globals c = c.has_globals

abbrev pub top_of : App → Shape
top_of a = a.top

-- one more argument
pub argued : (old new : Command) (arg : Arg) (app : App) (rule : Rule) → IsLocal app old
    → rule_of arg ≡ rule → arg.global ≡ false → AddsArg old arg new
    → IsLocal (with_rule app rule) new
argued old new arg app rule is e local h =
    (h.shape local ∙ ap₂ with_rule is.0 e, h.globals ∙ ap₂ ◌||◌ is.1 local)

pub argued_if : {E : Type 0} (new old : Result Command E) (arg : Arg) (app : App) (rule : Rule)
    → IfOk old (IsLocal app) → rule_of arg ≡ rule → arg.global ≡ false
    → IfOk new (λ whole. IsOkAnd old (λ part. AddsArg part arg whole))
    → IfOk new (IsLocal (with_rule app rule))
argued_if (Err e) old arg app rule is same local h = tt
argued_if (Ok new) (Err e) arg app rule is same local h = absurd h
argued_if (Ok new) (Ok old) arg app rule is same local h =
    argued old new arg app rule is same local h

-- one more subcommand
pub joined : (old sub new : Command) (app more : App) → app_of old ≡ app → IsLocal more sub
    → AddsSubcommand old sub new → app_of new ≡ with_subcommand app more.top
joined old sub new app more e is h = h.shape is.1 ∙ ap₂ with_subcommand e (ap top_of is.0)

-- a fact of the whole from one of each part
pub joined_if : {E : Type 0} (P Q R : Command → Type 0) (new old sub : Result Command E)
    → ((x y z : Command) → P x → Q y → AddsSubcommand x y z → R z) → IfOk old P → IfOk sub Q
    → IfOk new (λ z. IsOkAnd old (λ x. IsOkAnd sub (λ y. AddsSubcommand x y z))) → IfOk new R
joined_if P Q R (Err e) old sub f p q h = tt
joined_if P Q R (Ok z) (Err e) sub f p q h = absurd h
joined_if P Q R (Ok z) (Ok x) (Err e) f p q h = absurd h
joined_if P Q R (Ok z) (Ok x) (Ok y) f p q h = f x y z p q h
