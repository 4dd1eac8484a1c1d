-- How much of an instruction has been taken.
use Rattle.std.specs.Prelude.{◌≡◌, ℕ, List, [], Option}
use Rattle.pkops.specs.Limits.{Bounds}
use Rattle.pkread.specs.Held.{Held}
use Rattle.pkread.specs.Rows.{Sight, sight, unread}

-- what contracts see of a `Gathering`: its buffer, the number of bytes taken, and the limits
pub record GatheringView : Type 0 where
  pub buffer : Held
  pub taken : ℕ
  pub limits : Bounds

-- the bytes of the instruction so far, the source, and the number of bytes taken
pub record Intake : Type 0 where
  pub bytes : List ℕ
  pub source : Sight
  pub taken : ℕ

module _ {R : Type 0} (left : R → Option (List ℕ)) (failures : R → ℕ) where
  -- the intake with the bytes in the buffer
  abbrev pub intake : R → GatheringView → Intake
  intake source g = record {
    bytes = g.buffer.bytes;
    source = sight left failures source;
    taken = g.taken;
  }

  -- the intake before the first byte; a byte that was read ahead does not count as taken yet
  abbrev pub intake_start : R → GatheringView → Intake
  intake_start source g = record {
    bytes = [];
    source = unread g.buffer.bytes (sight left failures source);
    taken = g.taken;
  }

-- only the bytes held and the number of bytes taken change
abbrev pub KeepsRest : GatheringView → GatheringView → Type 0
KeepsRest old new = (new.buffer.peak ≡ old.buffer.peak) × (new.limits ≡ old.limits)
