-- What a step of the checker says about runs: laws of `advance` and `step_as`.
use Rattle.std.specs.Prelude.{◌≡◌, ℕ, ⊤, true, List, Some, None, Ok, Err}
use Rattle.pkops.specs.Admitted.{is_admitted}
use Rattle.pkops.specs.Limits.{Bounds}
use Rattle.pkops.specs.Spelling.{Instruction}
use Rattle.pkimport.specs.Import.{AskedUnknown}
use Rattle.pklist.specs.Bounded.{HasLongest}
use Rattle.pkstack.specs.Shape.{marks_of}
use Rattle.pkmachine.specs.declared.old_strings.OldStrings.{OldStrings}
use Rattle.pkmachine.specs.Covers.{Covers, CoversBy, Follows}
use Rattle.pkmachine.specs.Faults.{AsksForTwo, HasNoFault, IsFirstFault}
use Rattle.pkmachine.specs.FollowedKnowledge.{KnowledgeIsFollowed}
use Rattle.pkmachine.specs.Knowledge.{Knowledge, Policy, Progress, Refusal, advance, reason_of}
use Rattle.pkmachine.specs.RowRuns.{Beginning, RunsFrom}
use Rattle.pkmachine.specs.Runs.{State, Outcome, step_as}
use Rattle.pkmachine.specs.Step.{IsPermitted}
use Rattle.pkmachine.specs.View.{off_pair}
use Rattle.pkmachine.specs.Witnesses.{Answered, StepsPast, Stands, new_text}

-- the names on the list are of bounded length, if there is a list
abbrev pub IsBounded : Policy → Type 0
IsBounded None = ⊤
IsBounded (Some list) = HasLongest list

-- what a loop over steps knows about runs
pub record StepLaws : Type 0 where
  -- whatever the outcome, an accepted step does in each covered state what the checker says
  pub sound : (setting : OldStrings) (policy : Policy) (limits : Bounds) (instruction : Instruction)
      (known : Knowledge) (progress : Progress)
      → advance setting policy limits instruction known ≡ Ok progress
      → (state : State) (outcome : Outcome)
      → Covers known state
      → Follows progress state (step_as setting instruction state outcome)
  -- an accepted step lists only an import that the policy permits
  pub permitted : (setting : OldStrings) (policy : Policy) (limits : Bounds)
      (instruction : Instruction) (known : Knowledge) (progress : Progress)
      → advance setting policy limits instruction known ≡ Ok progress
      → IsPermitted policy progress.import
  -- where each object about which nothing is known is one text, an accepted step that answers this
  -- text once more gets past the instruction
  pub goes_on : (setting : OldStrings) (policy : Policy) (limits : Bounds)
      (instruction : Instruction) (known : Knowledge) (progress : Progress)
      → advance setting policy limits instruction known ≡ Ok progress
      → (text : List ℕ) (state : State)
      → CoversBy (Answered text) known state
      → StepsPast text progress.after (step_as setting instruction state (new_text text state))
  -- if the knowledge stands for the runs that reach an instruction, then an accepted one has no
  -- fault there
  pub no_fault : (setting : OldStrings) (beginning : Beginning) (before : List Instruction)
      (policy : Policy) (limits : Bounds) (instruction : Instruction)
      (known : Knowledge) (progress : Progress)
      → Stands known (RunsFrom setting beginning before)
      → advance setting policy limits instruction known ≡ Ok progress
      → HasNoFault policy limits (RunsFrom setting beginning before) instruction
  -- an import is listed as Unknown only if two of those runs import different pairs
  pub unknown : (setting : OldStrings) (beginning : Beginning) (before : List Instruction)
      (policy : Policy) (limits : Bounds) (instruction : Instruction)
      (known : Knowledge) (progress : Progress)
      → Stands known (RunsFrom setting beginning before)
      → advance setting policy limits instruction known ≡ Ok progress
      → progress.import ≡ Some AskedUnknown
      → AsksForTwo (RunsFrom setting beginning before) instruction
  -- a refused instruction that was admitted has the named fault in those runs, and none that is
  -- tried earlier
  pub refused : (setting : OldStrings) (beginning : Beginning) (before : List Instruction)
      (policy : Policy) (limits : Bounds) (instruction : Instruction)
      (known : Knowledge) (refusal : Refusal)
      → Stands known (RunsFrom setting beginning before)
      → IsBounded policy
      → is_admitted instruction ≡ true
      → advance setting policy limits instruction known ≡ Err refusal
      → IsFirstFault policy limits (RunsFrom setting beginning before) instruction
      (reason_of refusal) (off_pair refusal)
  -- after an accepted instruction the checker knows what a domain carries
  pub followed : KnowledgeIsFollowed
  -- a covered state has as many marks as are known
  pub marks : (known : Knowledge) (state : State)
      → Covers known state
      → marks_of known.entries ≡ marks_of state.shape.entries
