-- How one instruction is judged after it was read.
use Rattle.std.specs.Prelude.{◌≡◌, ℕ, ◌⊎◌, Option, None, Some, option_map}
use Rattle.pkops.specs.Spelling.{Instruction}
use Rattle.pkops.specs.declared.Reason.{Reason}
use Rattle.pkops.specs.declared.Reason.TheVariants.{BrokenFrame}
use Rattle.pkread.specs.Framing.{counted}
use Rattle.pkread.specs.Pieces.{piece_of}
use Rattle.pkimport.specs.Import.{Asked, asked_shown}
use Rattle.pkmachine.specs.Knowledge.{Policy}
use Rattle.pkmachine.specs.Step.{FailsStep, GoesOn}
use Rattle.pkmachine.specs.View.{View}
use Rattle.pkcheck.specs.declared.checking.No.{No}
use Rattle.pkmachine.specs.declared.stepping.Moved.{Moved}

-- the state of a check: the bytes left in the open frame, and the machine
pub record SessionView : Type 0 where
  pub frame : ℕ
  pub machine : View

-- a refusal at this offset, for this reason, with this pair off the list
pub record IsNoAt (at : ℕ) (reason : Reason) (off : Option Asked) (no : No) : Type 0 where
  pub place : no.at ≡ at
  pub why : no.reason ≡ reason
  pub pair : option_map asked_shown no.pair ≡ off

-- the instruction obeys the frame rules, and the machine goes on
abbrev pub BothGoOn : Policy → Instruction → ℕ → View → ℕ → View → Type 0
BothGoOn policy i was_open before is_open after =
    (counted was_open (piece_of i) ≡ Some is_open)
    × ((moved : Moved) × GoesOn policy i before after moved)

-- the instruction breaks the frame rules
abbrev pub BreaksFrame : Instruction → ℕ → View → View → Reason → Type 0
BreaksFrame i was_open before after reason =
    (counted was_open (piece_of i) ≡ None) × (after ≡ before) × (reason ≡ BrokenFrame)

-- the instruction breaks the frame rules, or it obeys them and the machine refuses it or an
-- allocation is refused
abbrev pub IsRefused : Policy → Instruction → ℕ → View → View → Reason → Type 0
IsRefused policy i was_open before after reason =
    BreaksFrame i was_open before after reason
    ⊎ (((is_open : ℕ) × (counted was_open (piece_of i) ≡ Some is_open))
    × FailsStep policy i before after reason)
