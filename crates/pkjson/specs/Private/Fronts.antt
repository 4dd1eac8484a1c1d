-- The instruction at the front of some bytes.
use Rattle.std.specs.Prelude.{◌≡◌, ℕ, List, ◌++◌, length, Option, Some, None}
use Rattle.pkops.specs.declared.Inst.{Inst}
use Rattle.pkops.specs.declared.Op.{Op}
use Rattle.pkops.specs.Contents.{IsGood}
use Rattle.pkops.specs.Inst.{instruction_of}
use Rattle.pkops.specs.KnownLayout.{split_of}
use Rattle.pkops.specs.Spelling.{Instruction, spelling}
use Rattle.pkread.specs.Admission.{IsAllowed}

-- an instruction that a reader returns is at the front
abbrev pub HasFront : ℕ → List ℕ → Type 0
HasFront limit bytes =
    (i : Instruction) × (more : List ℕ) × (bytes ≡ spelling i ++ more) × IsAllowed limit i

-- the instruction at the front of the bytes, if there is one, and the number of bytes that spell it
abbrev pub IsFront : ℕ → List ℕ → Option (Inst × ℕ) → Type 0
IsFront limit bytes None =
    (i : Instruction) (more : List ℕ) → bytes ≡ spelling i ++ more → IsAllowed limit i → ⊥
IsFront limit bytes (Some p) =
    (i : Instruction) (more : List ℕ) → bytes ≡ spelling i ++ more → IsAllowed limit i
    → (instruction_of p.0 ≡ i) × (p.1 ≡ length (spelling i))

-- n bytes spell the instruction, which doesn't have two lines
pub record IsLength (i : Instruction) (n : ℕ) : Type 0 where
  pub whole : n ≡ length (spelling i)
  pub unsplit : split_of i.arg ≡ 0

-- if a good instruction of this opcode is at the front of the bytes, n bytes spell it
unfoldable pub Measures : Op → List ℕ → ℕ → Type 0
Measures op bytes n =
    (i : Instruction) (more : List ℕ) → op ≡ i.op → bytes ≡ spelling i ++ more → IsGood i
    → IsLength i n
