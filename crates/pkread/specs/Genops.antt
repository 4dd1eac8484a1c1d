-- The instructions of a slice, in order, as CPython's `pickletools.genops` yields them.
use Rattle.std.specs.Prelude.{◌≡◌, ℕ, ◌+◌, Bool, true, false, cond, List, ◌++◌, length, Option}
use Rattle.std.specs.Prelude.{None, Result, MatchBool, MatchOption, MatchResult}
use Rattle.std.specs.Iterator.{Count, at_most}
use Rattle.pkops.specs.Inst.{instruction_of}
use Rattle.pkops.specs.Scans.{Begun}
use Rattle.pkops.specs.Spelling.{Instruction, spelling}
use Rattle.pkops.specs.declared.Inst.{Inst}
use Rattle.pkops.specs.declared.Op.{Op}
use Rattle.pkops.specs.declared.Op.TheVariants.{Stop}
use Rattle.pkops.specs.declared.Reason.TheVariants.{Truncated}
use Rattle.pkops.specs.declared.Refusal.{Refusal}
use Rattle.pkread.specs.Admission.{IsAllowed}
use Rattle.pkread.specs.Rows.{Reason, IsAmiss}

-- what contracts see of the iterator: the remaining bytes, the offset of the first of them, the
-- payload limit, and whether STOP or a refusal was returned
pub record Walk : Type 0 where
  pub bytes : List ℕ
  pub at : ℕ
  pub limit : ℕ
  pub done : Bool

-- an iterator at the first instruction
abbrev pub walk_of : List ℕ → ℕ → Walk
walk_of bytes limit = record { bytes = bytes; at = 0; limit = limit; done = false }

-- the opcode is STOP
abbrev pub is_stop : Op → Bool
is_stop Stop = true
is_stop _ = false

-- the remaining bytes begin with the returned instruction, and its offset is that of its first byte
pub record GivesItem (old : Walk) (at : ℕ) (i : Instruction) (new : Walk) : Type 0 where
  pub place : at ≡ old.at
  pub allowed : IsAllowed old.limit i
  pub bytes : old.bytes ≡ spelling i ++ new.bytes
  pub offset : new.at ≡ old.at + length (spelling i)
  pub limit : new.limit ≡ old.limit
  pub done : new.done ≡ is_stop i.op

-- what each reason says about the remaining bytes: Truncated, that they end too early; any other
-- reason, what is wrong with them
abbrev pub EndsOrIsAmiss : ℕ → List ℕ → Reason → Type 0
EndsOrIsAmiss limit bytes Truncated = Begun limit bytes
EndsOrIsAmiss limit bytes reason = IsAmiss limit bytes reason

-- the remaining bytes show this reason and no other, and the iterator is finished
pub record RefusesItem (old : Walk) (r : Refusal) (new : Walk) : Type 0 where
  pub place : r.at ≡ old.at
  pub why : EndsOrIsAmiss old.limit old.bytes r.reason
  pub alone : (other : Reason) → EndsOrIsAmiss old.limit old.bytes other → other ≡ r.reason
  pub after : new ≡ record old { done = true }

-- an item is an instruction with its offset, or a refusal
abbrev pub Yields : Walk → Result (ℕ × Inst) Refusal → Walk → Type 0
Yields old item new =
    MatchResult item
    (λ given. GivesItem old given.0 (instruction_of given.1) new)
    (λ r. RefusesItem old r new)

-- one call of `next`: an item, until STOP or a refusal was returned; then None, and nothing changes
abbrev pub Walks : Walk → Option (Result (ℕ × Inst) Refusal) → Walk → Type 0
Walks old item new =
    MatchBool old.done ((item ≡ None) × (new ≡ old)) (MatchOption item ⊥ (λ x. Yields old x new))

-- the most items that remain: one for each byte, because an instruction has at least one, and one
-- more for a refusal
abbrev pub most_items : Walk → Count
most_items walk = at_most (cond walk.done 0 (length walk.bytes + 1))
