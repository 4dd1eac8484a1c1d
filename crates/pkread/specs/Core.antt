-- What contracts see of a reader, apart from its source.
use Rattle.std.specs.Prelude.{◌≡◌, ⊤, ℕ, ◌<◌, List, [], ◌∷◌}
use Rattle.pkops.specs.Limits.{Bounds}
use Rattle.pkops.specs.declared.Op.{Op}
use Rattle.pkops.specs.declared.Op.TheVariants.{Stop}
use Rattle.pkops.specs.declared.Refusal.{Refusal}
use Rattle.pkread.specs.Held.{Held}
use Rattle.pkread.specs.Rows.{all_bytes}
use Rattle.pkread.specs.declared.state.Phase as declared
use Rattle.pkread.specs.declared.state.Stage as stage

-- what the next call does: read an instruction, report the end because STOP was returned, or return
-- the same refusal
pub data Phase : Type 0 where
  Open : Phase
  Ended : Phase
  Refused : Refusal → Phase

-- the Rust enum `Phase` in terms of this one
abbrev pub shown_phase : declared.Phase → Phase
shown_phase declared.TheVariants.Open = Open
shown_phase declared.TheVariants.Ended = Ended
shown_phase (declared.TheVariants.Refused refusal) = Refused refusal

-- the phase of a stage
abbrev pub phase_at : stage.Stage → Phase
phase_at stage.TheVariants.Open = Open
phase_at stage.TheVariants.Begun = Open
phase_at stage.TheVariants.Ended = Ended
phase_at (stage.TheVariants.Refused refusal) = Refused refusal

-- the bytes read ahead of the next instruction: those in the buffer if it has begun
abbrev pub ahead_of : stage.Stage → List ℕ → List ℕ
ahead_of stage.TheVariants.Begun bytes = bytes
ahead_of _ bytes = []

-- at most one byte is read ahead; it isn't counted yet, so there must be room to count it
abbrev pub AtMostOneAhead : List ℕ → ℕ → Type 0
AtMostOneAhead [] taken = ⊤
AtMostOneAhead (byte ∷ []) taken = taken < all_bytes
AtMostOneAhead (byte ∷ more ∷ bytes) taken = ⊥

-- bytes are read ahead only while the reader is open
abbrev pub NoneIfClosed : Phase → List ℕ → Type 0
NoneIfClosed Open ahead = ⊤
NoneIfClosed Ended ahead = ahead ≡ []
NoneIfClosed (Refused refusal) ahead = ahead ≡ []

-- a reader that has returned STOP has held at least one byte
abbrev pub SomeIfEnded : Phase → ℕ → Type 0
SomeIfEnded Open most = ⊤
SomeIfEnded Ended most = 0 < most
SomeIfEnded (Refused refusal) most = ⊤

-- the buffer, the bytes read ahead, the number of bytes taken without those, the limits, and the
-- phase
pub record CoreView : Type 0 where
  pub held : Held
  pub ahead : List ℕ
  pub taken : ℕ
  pub limits : Bounds
  pub phase : Phase

-- the phase after an instruction with this opcode
abbrev pub phase_after : Op → Phase
phase_after Stop = Ended
phase_after _ = Open
