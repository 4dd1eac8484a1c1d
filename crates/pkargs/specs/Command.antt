-- The command line of the program, as `clap` defines a simple command.
use Rattle.std.specs.Prelude.{◌≡◌, ◌⊎◌, Bool, List, [], ◌∷◌, map, Option, Some, true, false}
use Rattle.std.specs.Prelude.{codes, string_bytes}
use Rattle.clap.specs.Words.{App, Row, Rule, Text, app_of, fault_of, first_of, new_rule}
use Rattle.clap.specs.Words.{subcommand_of}
use Rattle.clap.specs.Simple.{new_shape}
use Rattle.clap.specs.declared.Command.{Command}
use Rattle.clap.specs.declared.Command.TheViews.{out-Command as fields_of}
use Rattle.clap.specs.declared.builder.action.ArgAction.TheVariants.{SetTrue}
use Rattle.clap.specs.declared.builder.value_parser.ValueParser.{ValueParser}
use Rattle.clap.specs.declared.builder.value_parser.ValueParser.TheVariants.{Names}
use Rattle.pkmachine.specs.declared.Memo.TheVariants.{Fresh, Kept}
use Rattle.pkmachine.specs.declared.OldStrings.{OldStrings}
use Rattle.pkmachine.specs.declared.OldStrings.TheVariants.{Unknown, Ascii, Bytes}
use Rattle.pkargs.specs.declared.job.Job.{Job}
use Rattle.pkargs.specs.declared.job.Job.TheVariants.{Dis, Check, Imports, Optimize, Json}
use Rattle.pkargs.specs.declared.job.Pickles.{Pickles}
use Rattle.pkargs.specs.declared.job.Pickles.TheVariants.{First, Row as RowOf}

-- the required option `--allow LIST`
abbrev pub allow_rule : Rule
allow_rule = record (new_rule (codes "LIST")) { long = Some (codes "allow"); required = true }

-- the word for a way to decode Python 2 strings
abbrev pub old_word : OldStrings → Text
old_word Unknown = codes "unknown"
old_word Ascii = codes "ascii"
old_word Bytes = codes "bytes"

-- the option `--old-strings OBJECT` with its parser; `unknown` by default
abbrev pub old_rule : ValueParser → Rule
old_rule parser = record (new_rule (codes "OBJECT")) {
  long = Some (codes "old-strings");
  defaults = old_word Unknown ∷ [];
  parser = Some parser;
}

-- the parser accepts exactly the three words
abbrev pub TakesOldWords : ValueParser → Type 0
TakesOldWords (Names words) =
    map (λ word. word.now) words.now ≡ map old_word (Unknown ∷ Ascii ∷ Bytes ∷ [])
TakesOldWords _ = ⊥

-- the flag `--all`
abbrev pub all_rule : Rule
all_rule = record (new_rule (codes "all")) { long = Some (codes "all"); action = Some SetTrue }

-- the flag `--one-unpickler`, which only a row of pickles may have
abbrev pub one_rule : Rule
one_rule = record (new_rule (codes "one-unpickler")) {
  long = Some (codes "one-unpickler");
  action = Some SetTrue;
}

-- the flag `--bill`
abbrev pub bill_rule : Rule
bill_rule = record (new_rule (codes "bill")) { long = Some (codes "bill"); action = Some SetTrue }

-- the required FILE
abbrev pub file_rule : Rule
file_rule = record (new_rule (codes "FILE")) { required = true }

-- the required OUT
abbrev pub out_rule : Rule
out_rule = record (new_rule (codes "OUT")) { required = true }

-- a subcommand with these arguments
abbrev pub app_with : Text → List Rule → App
app_with name rules = record { top = record (new_shape name) { rules = rules }; subs = [] }

-- `NAME FILE`
abbrev pub file_app : Text → App
file_app name = app_with name (file_rule ∷ [])

-- `check --allow LIST [--old-strings OBJECT] [--all [--one-unpickler]] [--bill] FILE`
abbrev pub check_app : ValueParser → App
check_app parser =
    app_with (codes "check")
    (allow_rule ∷ old_rule parser ∷ all_rule ∷ one_rule ∷ bill_rule ∷ file_rule ∷ [])

-- `optimize FILE OUT`
abbrev pub optimize_app : App
optimize_app = app_with (codes "optimize") (file_rule ∷ out_rule ∷ [])

-- the program without its subcommands
abbrev pub bare_app : App
bare_app = record {
  top = record (new_shape (codes "pktool")) {
    has_version = true;
    subcommand_required = true;
    disable_help_subcommand = true;
  };
  subs = [];
}

-- one level of subcommands, one of which is required
abbrev pub program_app : ValueParser → App
program_app parser = record {
  top = record (new_shape (codes "pktool")) {
    is_leaf = false;
    has_version = true;
    subcommand_required = true;
    disable_help_subcommand = true;
  };
  subs =
      (file_app (codes "dis")).top ∷ (check_app parser).top ∷ (file_app (codes "imports")).top
      ∷ optimize_app.top ∷ (file_app (codes "json")).top ∷ [];
}

-- a command without an argument that its subcommands share
abbrev pub IsLocal : App → Command → Type 0
IsLocal app command = (app_of command ≡ app) × ((fields_of command).has_globals ≡ false)

-- these are the option, the command and the program, for a parser that accepts exactly the three
-- words
abbrev pub IsOldRule : Rule → Type 0
IsOldRule rule = (parser : ValueParser) × TakesOldWords parser × (rule ≡ old_rule parser)

abbrev pub IsCheck : Command → Type 0
IsCheck command =
    (parser : ValueParser) × TakesOldWords parser × IsLocal (check_app parser) command

abbrev pub IsProgram : App → Type 0
IsProgram app = (parser : ValueParser) × TakesOldWords parser × (app ≡ program_app parser)

-- the argument has this value
abbrev pub IsGiven : List Row → Text → Text → Type 0
IsGiven rows id value = first_of id rows ≡ Some value

-- the value of a flag
abbrev pub flag_text : Bool → Text
flag_text true = codes "true"
flag_text false = codes "false"

-- the values of `--all` and of `--one-unpickler`
abbrev pub all_text : Pickles → Text
all_text First = flag_text false
all_text (RowOf memo) = flag_text true

abbrev pub one_text : Pickles → Text
one_text First = flag_text false
one_text (RowOf Fresh) = flag_text false
one_text (RowOf Kept) = flag_text true

-- the values of the job are those of its arguments
abbrev pub Carries : List Row → Job → Type 0
Carries rows (Dis file) = IsGiven rows (codes "FILE") (string_bytes file)
Carries rows (Imports file) = IsGiven rows (codes "FILE") (string_bytes file)
Carries rows (Json file) = IsGiven rows (codes "FILE") (string_bytes file)
Carries rows (Optimize file out) =
    IsGiven rows (codes "FILE") (string_bytes file) × IsGiven rows (codes "OUT") (string_bytes out)
Carries rows (Check allow old pickles bill file) =
    IsGiven rows (codes "LIST") (string_bytes allow) × IsGiven rows (codes "OBJECT") (old_word old)
    × IsGiven rows (codes "all") (all_text pickles)
    × IsGiven rows (codes "one-unpickler") (one_text pickles)
    × IsGiven rows (codes "bill") (flag_text bill)
    × IsGiven rows (codes "FILE") (string_bytes file)

-- the subcommand of each job
abbrev pub name_of : Job → Text
name_of (Dis file) = codes "dis"
name_of (Check allow old pickles bill file) = codes "check"
name_of (Imports file) = codes "imports"
name_of (Optimize file out) = codes "optimize"
name_of (Json file) = codes "json"

-- the job is the subcommand that was found, with its values
abbrev pub IsJob : Option (Text × List Row) → Job → Type 0
IsJob met job = (rows : List Row) × (met ≡ Some (name_of job, rows)) × Carries rows job

-- `clap` finds no fault in the words, and the job is the one that it finds there
abbrev pub AsksForJob : List Text → Job → Type 0
AsksForJob words job =
    (app : App) × IsProgram app × IsJob (subcommand_of app words) job × (fault_of app words ≡ [])

-- the rows lack a value that each job of this subcommand has
abbrev pub AreForNone : Text → List Row → Type 0
AreForNone name rows = (job : Job) → name_of job ≡ name → Carries rows job → ⊥

-- no job is the subcommand that was found, with its values
abbrev pub IsForNone : Option (Text × List Row) → Type 0
IsForNone met = (job : Job) → IsJob met job → ⊥

-- `clap` finds a fault in the words, or what it finds there is no job
abbrev pub AsksForNone : List Text → Type 0
AsksForNone words =
    (app : App) × IsProgram app
    × ((fault_of app words ≡ [] → ⊥) ⊎ IsForNone (subcommand_of app words))
