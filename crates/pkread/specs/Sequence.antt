-- Complete sequences of instructions, and the bytes that spell them.
use Rattle.std.specs.Prelude.{◌≡◌, ◌≢◌, ℕ, ◌+◌, ◌^◌, ◌%◌, List, [], ◌∷◌, ◌++◌, All, flat_map}
use Rattle.pkops.specs.Spelling.{Instruction, spelling}
use Rattle.pkops.specs.declared.Op.{Op}
use Rattle.pkops.specs.declared.Op.TheVariants.{Stop}
use Rattle.pkops.specs.declared.Reason.{Reason}
use Rattle.pkops.specs.declared.Reason.TheVariants.{Source}
use Rattle.pkread.specs.Admission.{IsAllowedBy}

-- the spellings of the instructions, in order
abbrev pub spellings : List Instruction → List ℕ
spellings instructions = flat_map spelling instructions

-- none of the instructions is STOP
abbrev pub NoStop : List Instruction → Type 0
NoStop instructions = All (λ i. i.op ≢ Stop) instructions

-- STOP is the last instruction, and occurs nowhere else
abbrev pub StopIsLast : List Instruction → Type 0
StopIsLast instructions =
    (front : List Instruction) × (last : Instruction)
    × (instructions ≡ front ++ last ∷ []) × (last.op ≡ Stop) × NoStop front

-- each instruction is good, admitted and within the limit of its opcode; STOP is the last, and
-- occurs nowhere else
pub record IsSequence (limit : Op → ℕ) (instructions : List Instruction) : Type 0 where
  pub each : All (IsAllowedBy limit) instructions
  pub stops : StopIsLast instructions

-- the count of failures rises by one for Source, and stays the same for every other reason
abbrev pub CountsAt : Reason → ℕ → ℕ → Type 0
CountsAt Source old new = new ≡ (old + 1) % (2 ^ 64)
CountsAt _ old new = new ≡ old
