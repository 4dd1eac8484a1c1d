-- What the answer of `check_with_imports` means: the imports of the instructions before a refusal.
use Rattle.std.specs.Prelude.{◌≡◌, ◌++◌, ℕ, List, length, Option, Result, MatchResult, option_map}
use Rattle.pkops.specs.Limits.{Bounds}
use Rattle.pkops.specs.Spelling.{Instruction}
use Rattle.pkops.specs.declared.Reason.{Reason}
use Rattle.pkread.specs.Rows.{Sight}
use Rattle.pkread.specs.Sequence.{CountsAt}
use Rattle.pkmachine.specs.declared.old_strings.OldStrings.{OldStrings}
use Rattle.pkcheck.specs.Accepted.{Accepted}
use Rattle.pkmachine.specs.Covers.{Pointwise, imports_of}
use Rattle.pkmachine.specs.Faults.{InEachRun}
use Rattle.pkimport.specs.Import.{Asked, asked_shown}
use Rattle.pkmachine.specs.Knowledge.{Policy}
use Rattle.pkcheck.specs.Listing.{EachAsks, ImportsAreListed, StandsFor, UnknownIsOpen}
use Rattle.pkcheck.specs.Listing.{imports_among}
use Rattle.pkcheck.specs.Refused.{RefusedFrom}
use Rattle.pkmachine.specs.RowRuns.{Afresh, Beginning, InEachRunFrom, listed_before, RunsFrom}
use Rattle.pkmachine.specs.Runs.{State}
use Rattle.pkcheck.specs.declared.checking.Yes.{Yes}
use Rattle.pkcheck.specs.declared.with_imports.NoWithImports.{NoWithImports}

-- the imports so far are just those that are listed, in order
abbrev pub HasImported : List Asked → State → Type 0
HasImported listed state = Pointwise StandsFor listed (imports_of state.events)

-- these are the imports of instructions without STOP, in runs that begin like this
pub record ImportsBefore (setting : OldStrings) (beginning : Beginning)
    (instructions : List Instruction) (imports : List Asked) : Type 0 where
  -- what each instruction imports, if anything; together, in order, these are the imports
  pub asked : List (Option Asked)
  pub each : length asked ≡ length instructions
  pub listed : imports ≡ imports_among asked
  -- in every run that reaches an instruction, it imports what is listed for it
  pub at_each : EachAsks setting beginning instructions asked
  -- some run gets past the instructions, and every run that does has made just these imports, after
  -- those of earlier pickles
  pub past : InEachRun (RunsFrom setting beginning instructions)
      (HasImported (listed_before beginning ++ imports))
  -- in every other run, its imports are a prefix of these
  pub imported : InEachRunFrom setting beginning instructions
      (ImportsAreListed (listed_before beginning ++ imports))
  -- an import is listed as Unknown only if two runs import different pairs there
  pub unknown : UnknownIsOpen setting beginning instructions asked

-- like RefusedFrom, with the imports of the instructions before the offset
pub record RefusedWithImports (from : ℕ) (setting : OldStrings) (beginning : Beginning)
    (policy : Policy) (limits : Bounds) (old new : Sight) (at : ℕ) (reason : Reason)
    (pair : Option Asked) (imports : List Asked) : Type 0 where
  pub refused : RefusedFrom from setting beginning policy limits old new at reason pair
  pub before : ImportsBefore setting beginning refused.instructions imports

-- the answer is right, given the source before the check and after it
abbrev pub IsRightWithImports :
    OldStrings → Policy → Bounds → Sight → Sight → Result Yes NoWithImports → Type 0
IsRightWithImports setting policy limits old new answer =
    MatchResult answer (λ yes. Accepted setting policy limits old new yes.taken yes.imports)
    (λ refused. RefusedWithImports 0 setting Afresh policy limits old new refused.no.at
    refused.no.reason (option_map asked_shown refused.no.pair) refused.imports)

-- the count of failed reads rises by one if the reason is Source, and otherwise stays the same
abbrev pub CountsWithImports : ℕ → ℕ → Result Yes NoWithImports → Type 0
CountsWithImports old new answer =
    MatchResult answer (λ _. new ≡ old) (λ refused. CountsAt refused.no.reason old new)
