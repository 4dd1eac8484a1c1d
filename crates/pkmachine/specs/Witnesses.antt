-- Runs whose answers are all one text: the witnesses of what some run does.
use Rattle.std.specs.Prelude.{◌≡◌, ℕ, List, Some, false, length, slice_get}
use Rattle.std.specs.Str.{IsUtf8}
use Rattle.pkmachine.specs.Covers.{Covers}
pub use Rattle.pkmachine.specs.Covers.{CoversBy}
use Rattle.pkmachine.specs.Faults.{Arrivals}
use Rattle.pkmachine.specs.Knowledge.{Knowledge}
use Rattle.pkmachine.specs.Runs.{Object, Text, State, Outcome, Go, Stepped, WentOn, Stopped}

-- the object with this number was answered, and is this text
abbrev pub Answered : List ℕ → List Object → ℕ → Type 0
Answered text objects number =
    slice_get objects number ≡ Some (record { class_of = Text text; made = false })

-- a text that an operation may answer
pub record Word : Type 0 where
  pub text : List ℕ
  pub utf8 : IsUtf8 text

-- the outcome that answers a new object, which is this text
abbrev pub new_text : List ℕ → State → Outcome
new_text text state = Go (length state.objects) (Text text)

-- the step neither raises nor is stuck, and in the state after it, which is covered, each object
-- about which nothing is known is this text
abbrev pub StepsPast : List ℕ → Knowledge → Stepped → Type 0
StepsPast text after (WentOn state) = CoversBy (Answered text) after state
StepsPast text after (Stopped result state) = CoversBy (Answered text) after state
StepsPast text after _ = ⊥

-- the knowledge covers each state in which a run gets here; and for each text, some run gets here
-- in a covered state in which each object about which nothing is known is an answer with this text
pub record Stands (known : Knowledge) (here : Arrivals) : Type 0 where
  pub each : (state : State) → here.any state → Covers known state
  pub real : (state : State) → here.some state → here.any state
  pub answers : (word : Word) (number : ℕ) → here.outcome (Go number (Text word.text))
  pub some : (word : Word)
      → (state : State) × here.some state × CoversBy (Answered word.text) known state
