-- What a call of `next_head` does: it takes byte payloads without holding them, under a limit of
-- their own.
use Rattle.std.specs.Prelude.{◌≡◌, ◌⊎◌, ℕ, ◌+◌, ◌≤◌, false, IsTrue, List, length, max, Result}
use Rattle.pkops.specs.Inst.{instruction_of}
use Rattle.pkops.specs.Payloads.{HasCount, is_passed, payload_limit_at}
use Rattle.pkops.specs.Spelling.{Counted, instruction, spelling}
use Rattle.pkops.specs.declared.Op.{Op}
use Rattle.pkread.specs.Core.{Phase, Open, Refused}
use Rattle.pkread.specs.Admission.{IsAllowed}
use Rattle.pkread.specs.ReaderCalls.{Refusal, Gives, ReaderState, ShowsBy, StepsBy}
use Rattle.pkread.specs.Rows.{Refuses, Sight, Takes, all_bytes}
use Rattle.pkread.specs.Sequence.{CountsAt}
use Rattle.pkread.specs.declared.reader.Head.{Head}
use Rattle.pkread.specs.declared.reader.Head.TheVariants as head

-- the passed opcode with this payload is an instruction that a reader returns
pub record IsSkipped (limit : ℕ) (op : Op) (count : ℕ) (payload : List ℕ) : Type 0 where
  pub passed : IsTrue (is_passed op)
  pub count_is : length payload ≡ count
  pub allowed : IsAllowed limit (instruction op (Counted payload))

-- the bytes taken spell an instruction with this opcode and some payload of `count` bytes
pub record SkipsBy (limit : ℕ) (op : Op) (count : ℕ) (old new : Sight)
    (before after : ℕ) : Type 0 where
  pub payload : List ℕ
  pub one : IsSkipped limit op count payload
  pub bytes : Takes old new (spelling (instruction op (Counted payload)))
  pub taken : after ≡ before + length (spelling (instruction op (Counted payload)))

-- the most bytes ever held rises to at most 131,075, or to the count plus 9 if the bytes taken
-- begin an instruction that is counted but not passed
abbrev pub HoldsFew : ℕ → List ℕ → ℕ → Type 0
HoldsFew old bytes new =
    (new ≤ max old 131_075)
    ⊎ ((op : Op) × (count : ℕ)
    × (is_passed op ≡ false) × HasCount op bytes count × (new ≤ max old (count + 9)))

-- the instruction at this offset was returned and its payload skipped
pub record Skips (old : ReaderState) (at : ℕ) (op : Op) (count : ℕ) (new : ReaderState)
    : Type 0 where
  pub place : at ≡ old.taken
  pub passes : SkipsBy old.limits.passed op count old.source new.source old.taken new.taken
  pub within : new.taken ≤ all_bytes
  pub least : old.most ≤ new.most
  pub most : new.most ≤ max old.most 131_075
  pub phase : new.phase ≡ Open

-- the bytes taken from this offset on show the reason, as with `next`; if they begin an instruction
-- with a passed opcode, the limit on skipped payloads applies
pub record RefusesHead (old : ReaderState) (r : Refusal) (new : ReaderState) : Type 0 where
  pub place : r.at ≡ old.taken
  pub why : (bytes : List ℕ)
      × Refuses (payload_limit_at old.limits bytes)
      old.source new.source bytes old.taken new.taken r.reason
      × (old.most ≤ new.most)
      × HoldsFew old.most bytes new.most
  pub failures : CountsAt r.reason old.source.failures new.source.failures
  pub phase : new.phase ≡ Refused r

-- an open reader returns an instruction, with its payload or without it; it never reports the end
abbrev pub GivesHead : ReaderState → ReaderState → Head → Type 0
GivesHead old new (head.Inst at inst) =
    Gives old at (instruction_of inst) new
    × (is_passed (instruction_of inst).op ≡ false)
    × HoldsFew old.most (spelling (instruction_of inst)) new.most
GivesHead old new (head.Passed at op count) = Skips old at op count new
GivesHead old new head.Ended = ⊥

-- a call of `next_head` in each phase
abbrev pub StepsHeadFrom : Phase → ReaderState → Result Head Refusal → ReaderState → Type 0
StepsHeadFrom phase old result new =
    StepsBy head.Ended (GivesHead old new) (λ r. RefusesHead old r new) phase old result new

-- one call of `next_head`
abbrev pub StepsHead : ReaderState → Result Head Refusal → ReaderState → Type 0
StepsHead old result new =
    (new.limits ≡ old.limits) × StepsHeadFrom old.phase old result new

-- known before the borrow ends: the offset, and that the instruction is allowed
abbrev pub ShowsHead : ReaderState → Head → Type 0
ShowsHead old (head.Inst at inst) =
    (at ≡ old.taken) × IsAllowed old.limits.counted (instruction_of inst)
ShowsHead old (head.Passed at op count) =
    (at ≡ old.taken) × (payload : List ℕ) × IsSkipped old.limits.passed op count payload
ShowsHead old head.Ended = ⊥

-- what is known about an answer while it still borrows from the reader
abbrev pub ShowsAHead : ReaderState → Result Head Refusal → Type 0
ShowsAHead old result = ShowsBy head.Ended (ShowsHead old) old.taken old.phase result
