-- What an open reader does, apart from its source.
use Rattle.std.specs.Io.KnownBytes.{IsAtEnd}
use Rattle.std.specs.Prelude.{◌≡◌, ◌≤◌, ℕ, List, [], ◌∷◌, Option, length, max, ⊤, Result}
use Rattle.std.specs.Prelude.{MatchResult}
use Rattle.pkops.specs.declared.Refusal.{Refusal}
use Rattle.pkread.specs.Core.{CoreView, Open, Phase, Refused, phase_after}
use Rattle.pkread.specs.Held.{most_held}
use Rattle.pkread.specs.Private.Arms.{Gathers, IsFound}
use Rattle.pkread.specs.Private.Progress.{Intake}
use Rattle.pkread.specs.Private.SkippedBytes.{RefusedHead, TookHead}
use Rattle.pkread.specs.Rows.{Refuses, Sight, Takes, all_bytes, sight, unread}
use Rattle.pkread.specs.declared.gather.Found.{Found}
use Rattle.pkread.specs.declared.heads.Gathered.{Gathered}
use Rattle.pkread.specs.declared.heads.Gathered.TheVariants as gathered

module _ {R : Type 0} (left : R → Option (List ℕ)) (failures : R → ℕ) where
  -- the state before the next instruction
  abbrev pub before_next : R → CoreView → Intake
  before_next source core = record {
    bytes = [];
    source = unread core.ahead (sight left failures source);
    taken = core.taken;
  }

  -- the state after the next instruction
  abbrev pub behind_next : R → CoreView → Intake
  behind_next source core = record {
    bytes = core.held.bytes;
    source = sight left failures source;
    taken = core.taken;
  }

-- whatever the result, no byte is read ahead of the following instruction
pub record Advances (old new : CoreView) : Type 0 where
  pub limits : new.limits ≡ old.limits
  pub ahead : new.ahead ≡ []
  pub within : new.taken ≤ all_bytes
  pub least : most_held old.held ≤ most_held new.held

-- a refusal carries the offset of its instruction and is permanent
pub record Ends (old new : CoreView) (r : Refusal) : Type 0 where
  pub place : r.at ≡ old.taken
  pub phase : new.phase ≡ Refused r

-- the instruction was gathered completely
pub record Collected (old new : CoreView) (before after : Intake) (f : Found) : Type 0 where
  pub found : IsFound old.limits.counted after.bytes f.op f.split
  pub gathers : Gathers old.limits.counted before after
  pub phase : new.phase ≡ phase_after f.op

-- an open reader gathers the next instruction or refuses it
abbrev pub Collects
    : Result Found Refusal → CoreView → CoreView → Intake → Intake → Type 0
Collects result old new before after =
    (most_held new.held ≡ max (most_held old.held) (length after.bytes))
    × MatchResult result
    (Collected old new before after)
    (λ r. Ends old new r × Refuses old.limits.counted
    before.source after.source after.bytes before.taken after.taken r.reason)

-- the phase after an instruction, held or skipped
abbrev pub phase_behind : Gathered → Phase
phase_behind (gathered.Held f) = phase_after f.op
phase_behind (gathered.Skipped op count) = Open

-- A holds if the whole instruction is held
abbrev pub IfHeld : Gathered → Type 0 → Type 0
IfHeld (gathered.Held f) A = A
IfHeld (gathered.Skipped op count) A = ⊤

-- an open reader gathers the next instruction without holding a byte payload, or refuses it
abbrev pub CollectsHead
    : Result Gathered Refusal → CoreView → CoreView → Intake → Intake → Type 0
CollectsHead result old new before after =
    MatchResult result
    (λ g. (new.phase ≡ phase_behind g)
    × TookHead old.limits g before after (most_held old.held) (most_held new.held))
    (λ r. Ends old new r
    × RefusedHead old.limits before after (most_held old.held) (most_held new.held) r.reason)

-- a byte arrived, and the buffer holds it
abbrev pub ByteCame : Sight → Sight → List ℕ → Type 0
ByteCame old new held = (byte : ℕ) × (held ≡ byte ∷ []) × Takes old new (byte ∷ [])

-- no byte arrived, because the source is at its end
abbrev pub NoneCame : Sight → Sight → List ℕ → Type 0
NoneCame old new held = (held ≡ []) × Takes old new [] × IsAtEnd new.left

-- a byte read ahead does not count as taken until its instruction is
abbrev pub Waits : CoreView → CoreView → Type 0
Waits old new =
    (most_held new.held ≡ most_held old.held)
    × (new.taken ≡ old.taken)
    × (new.limits ≡ old.limits)

-- no byte is read ahead, and the refusal is permanent
abbrev pub EndsHere : CoreView → CoreView → Refusal → Type 0
EndsHere old new r = (r.at ≡ old.taken) × (new.ahead ≡ []) × (new.phase ≡ Refused r)
