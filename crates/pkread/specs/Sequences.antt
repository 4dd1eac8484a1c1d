-- Two sequences of instructions in the same bytes.
use Rattle.std.specs.Prelude.{◌≡◌, ℕ, List, ◌∷◌, ◌++◌, All}
use Rattle.pkops.specs.Contents.{IsGood}
use Rattle.pkops.specs.Spelling.{Instruction, spelling}
use Rattle.pkops.specs.declared.Op.{Op}
use Rattle.pkread.specs.Admission.{IsAllowedBy}
use Rattle.pkread.specs.Sequence.{IsSequence, NoStop, spellings}

-- bytes begin with at most one complete sequence, whatever the payload limits
abbrev pub OneSequence : Type 0
OneSequence =
    (limit other : Op → ℕ) (instructions others : List Instruction) (rest more : List ℕ) →
    IsSequence limit instructions → IsSequence other others →
    spellings instructions ++ rest ≡ spellings others ++ more →
    (instructions ≡ others) × (rest ≡ more)

-- bytes begin with at most one instruction
abbrev pub OneFront : Type 0
OneFront =
    (i j : Instruction) (rest more : List ℕ) → IsGood i → IsGood j →
    spelling i ++ rest ≡ spelling j ++ more → (i ≡ j) × (rest ≡ more)

-- the sequence begins with these instructions and continues with another one, which is spelled next
pub record GoesOnBehind (sequence front : List Instruction) (rest more : List ℕ) : Type 0 where
  pub next : Instruction
  pub after : List Instruction
  pub split : sequence ≡ front ++ next ∷ after
  pub bytes : more ≡ spelling next ++ (spellings after ++ rest)

-- if bytes begin with a complete sequence, then any instructions without STOP with which the bytes
-- begin are the first ones of the sequence
abbrev pub SequenceGoesOn : Type 0
SequenceGoesOn =
    (limit other : Op → ℕ) (sequence front : List Instruction) (rest more : List ℕ) →
    IsSequence limit sequence → All (IsAllowedBy other) front → NoStop front →
    spellings sequence ++ rest ≡ spellings front ++ more →
    GoesOnBehind sequence front rest more
