-- What contracts see of a reader, and what a call of `next` does.
use Rattle.std.specs.Prelude.{◌≡◌, ◌≢◌, ℕ, ◌+◌, ◌≤◌, Bool, true, false, List, length, max, Option}
use Rattle.std.specs.Prelude.{Result, Ok, Err, MatchResult, []}
use base.Fml.{GName}
use Rattle.pkops.specs.Inst.{instruction_of}
use Rattle.pkops.specs.Limits.{Bounds}
use Rattle.pkops.specs.Spelling.{Instruction, spelling}
use Rattle.pkops.specs.declared.Reason.TheVariants.{OutOfMemory}
pub use Rattle.pkops.specs.declared.Refusal.{Refusal}
use Rattle.pkread.specs.Admission.{IsAllowed}
use Rattle.pkread.specs.Core.{Phase, Open, Ended, Refused, CoreView, phase_after}
use Rattle.pkread.specs.Held.{most_held}
use Rattle.pkread.specs.Rows.{Reason, Sight, Takes, Refuses, sight, unread, all_bytes}
use Rattle.pkread.specs.Sequence.{CountsAt}
use Rattle.pkread.specs.declared.reader.Next.{Next}
use Rattle.pkread.specs.declared.reader.Next.TheVariants as next
use Rattle.pkread.specs.declared.reader.Reader.{Reader}

-- the source behind the `&mut` that the reader holds
abbrev pub source_of : {R B : Type 0} → Reader R B → R
source_of r = r.source.now

-- the ghost name of that `&mut`
abbrev pub source_name : {R B : Type 0} → Reader R B → GName
source_name r = r.source.ghost_name

-- the view of the source, the number of bytes taken, the limits, the most bytes ever held, and the
-- phase. A byte read ahead belongs to the instruction that it begins. Until that instruction is
-- taken, the view of the source is the one before this byte, and the byte isn't counted
pub record ReaderState : Type 0 where
  pub source : Sight
  pub taken : ℕ
  pub limits : Bounds
  pub most : ℕ
  pub phase : Phase

-- the state of a reader, from the ghost members of its source's type
abbrev pub state : {R : Type 0} → (R → Option (List ℕ)) → (R → ℕ) → Reader R CoreView → ReaderState
state left failures r = record {
  source = unread r.core.ahead (sight left failures (source_of r));
  taken = r.core.taken;
  limits = r.core.limits;
  most = most_held r.core.held;
  phase = r.core.phase;
}

-- the state of a new reader
abbrev pub begun : Sight → Bounds → ReaderState
begun source limits = record {
  source = source;
  taken = 0;
  limits = limits;
  most = 0;
  phase = Open;
}

-- STOP was returned
abbrev pub is_ended : Phase → Bool
is_ended Ended = true
is_ended _ = false

-- the last returned instruction was STOP, and nothing was refused since
abbrev pub has_ended : ReaderState → Bool
has_ended s = is_ended s.phase

-- the reader still holds the same `&mut`
abbrev pub KeepsSource : {R : Type 0} → Reader R CoreView → Reader R CoreView → Type 0
KeepsSource old new = source_name new ≡ source_name old

-- a reader that has ended or refused doesn't touch its source
abbrev pub LeavesSource : {R : Type 0} → Reader R CoreView → Reader R CoreView → Type 0
LeavesSource old new = old.core.phase ≢ Open → source_of new ≡ source_of old

-- no byte of a further instruction was read
abbrev pub TakesNoneAhead : {R : Type 0} → Reader R CoreView → Type 0
TakesNoneAhead r = r.core.ahead ≡ []

-- the bytes taken spell the returned instruction, and its offset is that of the first of them
pub record Gives (old : ReaderState) (at : ℕ) (i : Instruction) (new : ReaderState) : Type 0 where
  pub place : at ≡ old.taken
  pub allowed : IsAllowed old.limits.counted i
  pub bytes : Takes old.source new.source (spelling i)
  pub taken : new.taken ≡ old.taken + length (spelling i)
  pub within : new.taken ≤ all_bytes
  pub most : new.most ≡ max old.most (length (spelling i))
  pub phase : new.phase ≡ phase_after i.op

-- the most bytes ever held, after these bytes were taken for an instruction that is refused
pub record Raises (old : ℕ) (bytes : List ℕ) (reason : Reason) (new : ℕ) : Type 0 where
  pub exact : reason ≢ OutOfMemory → new ≡ max old (length bytes)
  pub least : old ≤ new
  pub most : new ≤ max old (length bytes)

-- the bytes taken from this offset on show the reason; the count of failures rises by one for
-- Source and for no other reason
pub record RefusesAt (old : ReaderState) (r : Refusal) (new : ReaderState) : Type 0 where
  pub place : r.at ≡ old.taken
  pub why : (bytes : List ℕ) ×
      Refuses old.limits.counted old.source new.source bytes old.taken new.taken r.reason ×
      Raises old.most bytes r.reason new.most
  pub failures : CountsAt r.reason old.source.failures new.source.failures
  pub phase : new.phase ≡ Refused r

-- an open reader returns an instruction; it never reports the end
abbrev pub GivesNext : ReaderState → ReaderState → Next → Type 0
GivesNext old new (next.Inst at inst) = Gives old at (instruction_of inst) new
GivesNext old new next.Ended = ⊥

-- what a call does in each phase: an open reader gives something or refuses; after STOP or a
-- refusal every call returns the same and changes nothing
abbrev pub StepsBy : {A : Type 0} (ended : A) (given : A → Type 0) (refused : Refusal → Type 0)
    → Phase → ReaderState → Result A Refusal → ReaderState → Type 0
StepsBy ended given refused Open old result new = MatchResult result given refused
StepsBy ended given refused Ended old result new = (result ≡ Ok ended) × (new ≡ old)
StepsBy ended given refused (Refused r) old result new = (result ≡ Err r) × (new ≡ old)

-- a call of `next` in each phase
abbrev pub StepsFrom : Phase → ReaderState → Result Next Refusal → ReaderState → Type 0
StepsFrom phase old result new =
    StepsBy next.Ended (GivesNext old new) (λ r. RefusesAt old r new) phase old result new

-- one call of `next`
abbrev pub Steps : ReaderState → Result Next Refusal → ReaderState → Type 0
Steps old result new = (new.limits ≡ old.limits) × StepsFrom old.phase old result new

-- known before the borrow ends: the offset, and that the instruction is allowed
abbrev pub ShowsNext : ReaderState → Next → Type 0
ShowsNext old (next.Inst at inst) =
    (at ≡ old.taken) × IsAllowed old.limits.counted (instruction_of inst)
ShowsNext old next.Ended = ⊥

-- the answer in each phase, without the state after the call
abbrev pub ShowsBy : {A : Type 0} (ended : A) (shown : A → Type 0) (taken : ℕ)
    → Phase → Result A Refusal → Type 0
ShowsBy ended shown taken Open result = MatchResult result shown (λ r. r.at ≡ taken)
ShowsBy ended shown taken Ended result = result ≡ Ok ended
ShowsBy ended shown taken (Refused r) result = result ≡ Err r

-- what is known about an answer while it still borrows from the reader
abbrev pub Shows : ReaderState → Result Next Refusal → Type 0
Shows old result = ShowsBy next.Ended (ShowsNext old) old.taken old.phase result
