-- What the answers of `optimize` mean.
use Rattle.std.specs.Prelude.{◌≡◌, ℕ, ◌⊎◌, List, length, map, Option, None}
use Rattle.pkops.specs.Limits.{Bounds, holding_all}
use Rattle.pkops.specs.Spelling.{Instruction}
use Rattle.pkops.specs.declared.Reason.TheVariants.{TooLarge, OutOfMemory}
use Rattle.pkops.specs.declared.Refusal.{Refusal}
use Rattle.pkread.specs.Framing.{Framed}
use Rattle.pkread.specs.Pieces.{piece_of}
use Rattle.pkread.specs.Rows.{Sight, in_memory}
use Rattle.pkread.specs.Sequence.{IsSequence, spellings}
use Rattle.pkmachine.specs.declared.OldStrings.TheVariants.{Unknown}
use Rattle.pkcheck.specs.Accepted.{Accepted}
use Rattle.pkimport.specs.Import.{Asked}
use Rattle.pkcheck.specs.Listing.{permitted_by}
use Rattle.pkcheck.specs.Refused.{Refused}
use Rattle.pkmachine.specs.WholeRuns.{Sound}
use Rattle.pkopt.specs.Faultless.{StaysFaultless}
use Rattle.pkopt.specs.Limit.{IsPastLimit}
use Rattle.pkopt.specs.OneFrame.{optimized}
use Rattle.pkopt.specs.RunsAlike.{RunsAlike, AllRead}

-- a check that permits every import, with one limit for all payloads, accepts the pickle at the
-- front of the bytes
pub record Checks (limits : Bounds) (bytes : List ℕ) : Type 0 where
  pub rest : List ℕ
  pub taken : ℕ
  pub imports : List Asked
  pub accepted : Accepted Unknown None (holding_all limits) (in_memory bytes) (in_memory rest)
      taken imports

-- such a check accepts this many bytes
abbrev pub TakesAsChecked : Bounds → List ℕ → ℕ → Type 0
TakesAsChecked limits bytes taken =
    (after : Sight) × (imports : List Asked)
    × Accepted Unknown None (holding_all limits) (in_memory bytes) after taken imports

-- the instructions of the accepted pickle
abbrev pub pickle : {limits : Bounds} {bytes : List ℕ} → Checks limits bytes → List Instruction
pickle checks = checks.accepted.instructions

-- `out` is the optimized form of the pickle at the front of the bytes
pub record Optimizes (limits : Bounds) (bytes out : List ℕ) : Type 0 where
  -- the pickle passes the check
  pub checks : Checks limits bytes
  -- the output spells its slim form, inside one frame if the pickle had any
  pub spelled : out ≡ spellings (optimized (pickle checks))
  -- whatever operations answer, both do the same things in the same order, with the same operands
  -- and results, and end the same way
  pub alike : RunsAlike (pickle checks) (optimized (pickle checks))
  -- every memo write of the output is read
  pub read : AllRead (optimized (pickle checks))
  -- the output is a complete sequence of its own, and its instructions obey the frame rules
  pub sequence : IsSequence (λ _. limits.counted) (optimized (pickle checks))
  pub framed : Framed (map piece_of (optimized (pickle checks)))
  -- whatever operations answer, each step of the output finds what it needs, and STOP leaves
  -- nothing but the result
  pub sound : Sound Unknown (optimized (pickle checks)) (permitted_by None)
  -- under every policy, if a check finds no fault in the pickle, it finds none in the output except
  -- exceeded limits
  pub faultless : StaysFaultless (pickle checks) (optimized (pickle checks))
  -- no write that is read would need the limit, or more, as its number
  pub fits : (before : List Instruction) → IsPastLimit limits.memo (pickle checks) before → ⊥

-- the check refuses the pickle at this offset, for this reason
pub record FailsCheck (limits : Bounds) (bytes : List ℕ) (refusal : Refusal) : Type 0 where
  pub rest : List ℕ
  pub pair : Option Asked
  pub refused : Refused Unknown None (holding_all limits)
      (in_memory bytes) (in_memory rest) refusal.at refusal.reason pair

-- the pickle passes the check, but the write at this offset is read and would need the limit as its
-- number
pub record PassesLimit (limits : Bounds) (bytes : List ℕ) (refusal : Refusal) : Type 0 where
  pub checks : Checks limits bytes
  pub before : List Instruction
  pub past : IsPastLimit limits.memo (pickle checks) before
  pub place : refusal.at ≡ length (spellings before)
  pub reason : refusal.reason ≡ TooLarge

-- the pickle passes the check, but an allocation outside it was refused
pub record LacksMemory (limits : Bounds) (bytes : List ℕ) (refusal : Refusal) : Type 0 where
  pub checks : Checks limits bytes
  pub place : refusal.at ≡ 0
  pub reason : refusal.reason ≡ OutOfMemory

-- one of these three holds
abbrev pub IsNotOptimized : Bounds → List ℕ → Refusal → Type 0
IsNotOptimized limits bytes refusal =
    FailsCheck limits bytes refusal
    ⊎ PassesLimit limits bytes refusal
    ⊎ LacksMemory limits bytes refusal
