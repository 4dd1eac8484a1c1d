-- Runs of which something is known about the answers: that each is a new object, say.
use Rattle.std.specs.Prelude.{◌≡◌, ⊤, ℕ, ◌≤◌, All, Bool, true, false, List, [], ◌∷◌, ◌++◌, length}
use Rattle.std.specs.Prelude.{Some}
use Rattle.pkops.specs.Limits.{Bounds}
use Rattle.pkops.specs.Payloads.{payload_limit}
use Rattle.pkops.specs.Spelling.{Instruction}
use Rattle.pkread.specs.Admission.{IsAllowedBy}
use Rattle.pkread.specs.Rows.{Sight}
use Rattle.pkread.specs.Sequence.{NoStop}
use Rattle.pkmachine.specs.Effects.{effect_as}
use Rattle.pkmachine.specs.Knowledge.{Policy}
use Rattle.pkcheck.specs.RowOfPickles.{AreAccepted, begins}
use Rattle.pkmachine.specs.RowRuns.{Afresh, Beginning, Behind, Pickle, run_row, sequences_of}
use Rattle.pkcheck.specs.RunFaults.{IsFaultless}
use Rattle.pkmachine.specs.Runs.{CanCome, Go, Outcome, Raise, Raised, State, Stepped, Stopped}
use Rattle.pkmachine.specs.Runs.{Stuck, WentOn, effect_asks, start, step_as}
use Rattle.pkmachine.specs.WholeRuns.{Ended, EndedBy, Reached, first_outcome, outcomes_after}
use Rattle.pkmachine.specs.WholeRuns.{run_as}
use Rattle.pkcheck.specs.declared.loading.Loading.{Loading}
use Rattle.pkmachine.specs.declared.old_strings.OldStrings.{OldStrings}

-- the property is asked for
abbrev pub If : Bool → Type 0 → Type 0
If true Holds = Holds
If false Holds = ⊤

-- the property holds of the state, if the step goes on
abbrev pub IfWentOn : Stepped → (State → Type 0) → Type 0
IfWentOn (WentOn state) Holds = Holds state
IfWentOn (Raised state) Holds = ⊤
IfWentOn (Stopped result state) Holds = ⊤
IfWentOn (Stuck breach) Holds = ⊤

-- the property holds where the next pickle begins, if the run stopped
abbrev pub IfStopped : Ended → (State → Type 0) → Type 0
IfStopped (EndedBy (Stopped result state)) Holds =
    Holds (record state { shape = record { entries = []; memo = state.shape.memo } })
IfStopped ended Holds = ⊤

-- the outcome answers none of the earlier objects
abbrev pub IsNew : State → Outcome → Type 0
IsNew state Raise = ⊤
IsNew state (Go number kind) = length state.objects ≤ number

-- each instruction that answers, answers a new object
abbrev pub AnswersNew : Instruction → State → Outcome → Type 0
AnswersNew instruction state outcome = IsNew state outcome

-- given the outcomes that an instruction may have in a state
module _ (May : Instruction → State → Outcome → Type 0) where
  -- each outcome that the run of these instructions uses is one of those
  abbrev pub Obeys : OldStrings → List Instruction → List Outcome → State → Type 0
  Obeys setting [] outcomes state = ⊤
  Obeys setting (i ∷ instructions) outcomes state =
      If (effect_asks (effect_as setting i)) (May i state (first_outcome outcomes))
      × IfWentOn (step_as setting i state (first_outcome outcomes))
      (Obeys setting instructions (outcomes_after (effect_asks (effect_as setting i)) outcomes))

  -- each outcome that the runs of these pickles use is one of those
  abbrev pub RowObeys :
      OldStrings → List (List Instruction) → List (List Outcome) → State → Type 0
  RowObeys setting [] outcomes state = ⊤
  RowObeys setting (pickle ∷ pickles) [] state = ⊤
  RowObeys setting (pickle ∷ pickles) (first ∷ others) state =
      Obeys setting pickle first state
      × IfStopped (run_as setting pickle first state) (RowObeys setting pickles others)

  -- every run of these instructions that begins like this, with such outcomes, has this property,
  -- given the number of the events before it
  abbrev pub InEachOf :
      OldStrings → Beginning → List Instruction → (ℕ → Ended → Type 0) → Type 0
  InEachOf setting Afresh instructions Holds =
      (outcomes : List Outcome)
      → Obeys setting instructions outcomes start
      → Holds 0 (run_as setting instructions outcomes start)
  InEachOf setting (Behind pickles) instructions Holds =
      (earlier : List (List Outcome)) (first : State) (outcomes : List Outcome)
      → run_row setting (sequences_of pickles) earlier start ≡ Some first
      → RowObeys setting (sequences_of pickles) earlier start
      → Obeys setting instructions outcomes first
      → Holds (length first.events) (run_as setting instructions outcomes first)

  -- some run of these instructions that begins like this, with such outcomes, all of them possible
  -- ones, has this property
  abbrev pub InSomeOf :
      OldStrings → Beginning → List Instruction → (ℕ → Ended → Type 0) → Type 0
  InSomeOf setting Afresh instructions Holds =
      (outcomes : List Outcome)
      × All CanCome outcomes
      × Obeys setting instructions outcomes start
      × Holds 0 (run_as setting instructions outcomes start)
  InSomeOf setting (Behind pickles) instructions Holds =
      (earlier : List (List Outcome))
      × (first : State)
      × (outcomes : List Outcome)
      × All (All CanCome) earlier
      × (run_row setting (sequences_of pickles) earlier start ≡ Some first)
      × RowObeys setting (sequences_of pickles) earlier start
      × All CanCome outcomes
      × Obeys setting instructions outcomes first
      × Holds (length first.events) (run_as setting instructions outcomes first)

-- every run whose answers are new objects
abbrev pub InEachNewRun : OldStrings → Beginning → List Instruction → (ℕ → Ended → Type 0) → Type 0
InEachNewRun = InEachOf AnswersNew

-- every run, whatever is answered
abbrev pub InEveryRun : OldStrings → Beginning → List Instruction → (ℕ → Ended → Type 0) → Type 0
InEveryRun setting Afresh instructions Holds =
    (outcomes : List Outcome) → Holds 0 (run_as setting instructions outcomes start)
InEveryRun setting (Behind pickles) instructions Holds =
    (earlier : List (List Outcome)) (first : State) (outcomes : List Outcome)
    → run_row setting (sequences_of pickles) earlier start ≡ Some first
    → Holds (length first.events) (run_as setting instructions outcomes first)

-- some run whose answers are new objects, and possible ones
abbrev pub InSomeNewRun : OldStrings → Beginning → List Instruction → (ℕ → Ended → Type 0) → Type 0
InSomeNewRun = InSomeOf AnswersNew

-- the run got past its instructions
abbrev pub GetsPast : ℕ → Ended → Type 0
GetsPast earlier (Reached state) = ⊤
GetsPast earlier (EndedBy (Stopped result state)) = ⊤
GetsPast earlier (EndedBy (Raised state)) = ⊥
GetsPast earlier (EndedBy (WentOn state)) = ⊥
GetsPast earlier (EndedBy (Stuck breach)) = ⊥

-- some run whose answers are new objects gets past instructions without a fault, after accepted
-- pickles
abbrev pub FaultlessIsRun : Type 0
FaultlessIsRun =
    (loading : Loading) (policy : Policy) (limits : Bounds) (old here : Sight)
    (before : List Pickle) (instructions : List Instruction) (last : Instruction)
    → AreAccepted loading policy limits old here [] before
    → NoStop instructions
    → All (IsAllowedBy (payload_limit limits)) (instructions ++ last ∷ [])
    → IsFaultless loading.old_strings (begins loading.memo before) policy limits
    (instructions ++ last ∷ [])
    → InSomeNewRun loading.old_strings (begins loading.memo before) (instructions ++ last ∷ [])
    GetsPast
