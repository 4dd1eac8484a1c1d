-- What a loop over `genops` knows: the instructions returned so far.
use Rattle.std.specs.Prelude.{◌≡◌, ℕ, List, [], ◌∷◌, ◌++◌, All, length, Option, Some, None, Result}
use Rattle.std.specs.Prelude.{Ok, Err, MatchBool}
use Rattle.pkops.specs.Inst.{instruction_of}
use Rattle.pkops.specs.Spelling.{Instruction}
use Rattle.pkops.specs.declared.Inst.{Inst}
use Rattle.pkops.specs.declared.Refusal.{Refusal}
use Rattle.pkread.specs.Admission.{IsAllowed}
use Rattle.pkread.specs.Genops.{GivesItem, RefusesItem, Walk, Walks, walk_of}
use Rattle.pkread.specs.Sequence.{IsSequence, NoStop, StopIsLast, spellings}

-- an iterator in this state has returned these instructions from the start of the bytes, and no
-- refusal
pub record HasWalked (bytes : List ℕ) (limit : ℕ) (instructions : List Instruction) (walk : Walk)
    : Type 0 where
  pub same_limit : walk.limit ≡ limit
  pub each : All (IsAllowed limit) instructions
  pub so_far : MatchBool walk.done (StopIsLast instructions) (NoStop instructions)
  pub parts : bytes ≡ spellings instructions ++ walk.bytes
  pub offset : walk.at ≡ length (spellings instructions)

-- a new iterator has returned nothing
abbrev pub WalkBegins : Type 0
WalkBegins = (bytes : List ℕ) (limit : ℕ) → HasWalked bytes limit [] (walk_of bytes limit)

-- a returned instruction follows the earlier ones
abbrev pub ItemIsWalked : Type 0
ItemIsWalked =
    (bytes : List ℕ) (limit : ℕ) (p : List Instruction) (old new : Walk)
    (item : Option (Result (ℕ × Inst) Refusal)) (at : ℕ) (inst : Inst) →
    HasWalked bytes limit p old → Walks old item new → item ≡ Some (Ok (at, inst)) →
    NoStop p × HasWalked bytes limit (p ++ instruction_of inst ∷ []) new
    × GivesItem old at (instruction_of inst) new

-- when the iterator returns None, the instructions are a complete sequence
abbrev pub EndIsWalked : Type 0
EndIsWalked =
    (bytes : List ℕ) (limit : ℕ) (p : List Instruction) (old new : Walk)
    (item : Option (Result (ℕ × Inst) Refusal)) →
    HasWalked bytes limit p old → Walks old item new → item ≡ None →
    IsSequence (λ _. limit) p × (new ≡ old)

-- when a refusal is returned, STOP was not
abbrev pub RefusalIsWalked : Type 0
RefusalIsWalked =
    (bytes : List ℕ) (limit : ℕ) (p : List Instruction) (old new : Walk)
    (item : Option (Result (ℕ × Inst) Refusal)) (refusal : Refusal) →
    HasWalked bytes limit p old → Walks old item new → item ≡ Some (Err refusal) →
    NoStop p × RefusesItem old refusal new
