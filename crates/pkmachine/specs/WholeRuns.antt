-- Runs of a whole list of instructions, and when all of them are sound, whatever the outcomes.
use Rattle.std.specs.Prelude.{◌≡◌, ⊤, ℕ, All, Bool, true, List, [], ◌∷◌}
use Rattle.pkops.specs.Spelling.{Instruction}
use Rattle.pkmachine.specs.Effects.{effect_as, OldStrings, Unknown}
use Rattle.pkmachine.specs.Runs.{State, Outcome, CanCome, Raise, Stepped, WentOn, Raised, Stopped}
use Rattle.pkmachine.specs.Runs.{step_as, effect_asks, start}
use Rattle.pkmachine.specs.Covers.{imports_of}

-- how far a run got: it reached this state, or its last step ended it
pub data Ended : Type 0 where
  Reached : State → Ended
  EndedBy : Stepped → Ended

-- the next outcome; a missing one counts as a raise, but a long enough list never lacks one
abbrev pub first_outcome : List Outcome → Outcome
first_outcome [] = Raise
first_outcome (outcome ∷ outcomes) = outcome

-- the outcomes that remain after a step, which uses one if its operation asks
abbrev pub outcomes_after : Bool → List Outcome → List Outcome
outcomes_after true (outcome ∷ outcomes) = outcomes
outcomes_after asks outcomes = outcomes

-- continues unless the step ended the run
abbrev pub go_on : Stepped → (State → Ended) → Ended
go_on (WentOn state) next = next state
go_on (Stopped result state) next = EndedBy (Stopped result state)
go_on step next = EndedBy step

-- the run of these instructions with these outcomes, given the decoding of old strings
abbrev pub run_as : OldStrings → List Instruction → List Outcome → State → Ended
run_as setting [] outcomes state = Reached state
run_as setting (instruction ∷ instructions) outcomes state =
    go_on (step_as setting instruction state (first_outcome outcomes))
    (run_as setting instructions
    (outcomes_after (effect_asks (effect_as setting instruction)) outcomes))

-- like run_as, if the decoding isn't set
abbrev pub run : List Instruction → List Outcome → State → Ended
run = run_as Unknown

-- some run of these instructions leads from one state to the other
abbrev pub GetsTo : OldStrings → List Instruction → State → State → Type 0
GetsTo setting instructions before after =
    (outcomes : List Outcome) × (run_as setting instructions outcomes before ≡ Reached after)

-- like GetsTo, with only possible outcomes
abbrev pub CanGetTo : OldStrings → List Instruction → State → State → Type 0
CanGetTo setting instructions before after =
    (outcomes : List Outcome)
    × All CanCome outcomes
    × (run_as setting instructions outcomes before ≡ Reached after)

-- all of these pairs are listed
abbrev pub AllListed : (List ℕ → List ℕ → Bool) → List (List ℕ × List ℕ) → Type 0
AllListed list [] = ⊤
AllListed list (pair ∷ pairs) = (list pair.0 pair.1 ≡ true) × AllListed list pairs

-- the run isn't stuck, imported only listed pairs, and left nothing but the result if it stopped
abbrev pub EndsWell : (List ℕ → List ℕ → Bool) → Ended → Type 0
EndsWell list (Reached state) = AllListed list (imports_of state.events)
EndsWell list (EndedBy (Raised state)) = AllListed list (imports_of state.events)
EndsWell list (EndedBy (Stopped result state)) =
    (state.shape.entries ≡ []) × AllListed list (imports_of state.events)
EndsWell list _ = ⊥

-- every run ends well, whatever its outcomes
abbrev pub Sound : OldStrings → List Instruction → (List ℕ → List ℕ → Bool) → Type 0
Sound setting instructions list =
    (outcomes : List Outcome) → EndsWell list (run_as setting instructions outcomes start)
