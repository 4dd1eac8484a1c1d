-- Bytes that are taken but not held. The contracts describe them as if the buffer held them.
use Rattle.std.specs.Prelude.{◌≡◌, ◌≤◌, ◌++◌, ℕ, List, length, max, Result, MatchResult, false}
use Rattle.pkops.specs.Limits.{Bounds}
use Rattle.pkops.specs.KnownLayout.{Lies}
use Rattle.pkops.specs.Payloads.{is_passed, payload_limit_at}
use Rattle.pkops.specs.Spelling.{Counted}
use Rattle.pkops.specs.declared.Op.{Op}
use Rattle.pkread.specs.Heads.{HoldsFew, SkipsBy}
use Rattle.pkread.specs.Private.Arms.{Gathers, IsFound, Stops}
use Rattle.pkread.specs.Private.Progress.{GatheringView, Intake}
use Rattle.pkread.specs.Private.Reads.{LacksSome, Took, TookAll}
use Rattle.pkread.specs.Rows.{Reason, Refuses}
use Rattle.pkread.specs.declared.gather.Found.{Found}
use Rattle.pkread.specs.declared.heads.Gathered.{Gathered}
use Rattle.pkread.specs.declared.heads.Gathered.TheVariants as gathered

-- as if the buffer held these bytes
abbrev pub holding : List ℕ → Intake → Intake
holding bytes p = record p { bytes = bytes }

-- `count` bytes are taken, or fewer with a reason; none of them is held
abbrev pub SkipsAll : {A : Type 0} → ℕ → Result A Reason → Intake → Intake → Type 0
SkipsAll count result old new =
    MatchResult result
    (λ _. (bytes : List ℕ) × TookAll count old (holding bytes new))
    (λ reason. (bytes : List ℕ) × LacksSome count old (holding bytes new) reason)

-- n of the `wanted` bytes were taken, and none of them is held
pub record PassedSome (wanted n : ℕ) (old new : Intake) : Type 0 where
  pub bytes : List ℕ
  pub took : Took bytes old (holding (old.bytes ++ bytes) new)
  pub within : n ≤ wanted
  pub count : length bytes ≡ n

-- bytes were taken that, together with those held, spell the opcode with a payload of `count` bytes
pub record GrowsSkipping (limit : ℕ) (op : Op) (count : ℕ) (old new : Intake) : Type 0 where
  pub bytes : List ℕ
  pub run : List ℕ
  pub took : Took run old (holding bytes new)
  pub payload : List ℕ
  pub count_is : length payload ≡ count
  pub lies : Lies limit op (Counted payload) 0 bytes

-- bytes were taken up to the one that shows the reason
abbrev pub StopsSkipping : ℕ → Intake → Intake → Reason → Type 0
StopsSkipping limit old new reason =
    (bytes : List ℕ) × Stops limit old (holding bytes new) reason

-- takes the argument of the opcode and skips its payload, or says why not
abbrev pub SkipsArgument : ℕ → Op → Result ℕ Reason → Intake → Intake → Type 0
SkipsArgument limit op result old new =
    MatchResult result (λ count. GrowsSkipping limit op count old new) (StopsSkipping limit old new)

-- the most bytes ever held never falls, and rises to at most 131,075
pub record RisesLittle (old new : GatheringView) : Type 0 where
  pub least : old.buffer.peak ≤ new.buffer.peak
  pub most : new.buffer.peak ≤ max old.buffer.peak 131_075
  pub limits : new.limits ≡ old.limits

-- the whole instruction is held, and its opcode isn't skipped; the most bytes ever held changes
-- from `most` to `after`
pub record HeldWhole (limit : ℕ) (f : Found) (old new : Intake) (most after : ℕ) : Type 0 where
  pub found : IsFound limit new.bytes f.op f.split
  pub kept : is_passed f.op ≡ false
  pub gathers : Gathers limit old new
  pub rises : after ≡ max most (length new.bytes)
  pub few : HoldsFew most new.bytes after

-- a payload was skipped
pub record SkippedOne (limit : ℕ) (op : Op) (count : ℕ) (old new : Intake) (most after : ℕ)
    : Type 0 where
  pub passes : SkipsBy limit op count old.source new.source old.taken new.taken
  pub few : after ≤ max most 131_075

-- the whole instruction is held, or its payload is skipped
abbrev pub TookHead : Bounds → Gathered → Intake → Intake → ℕ → ℕ → Type 0
TookHead limits (gathered.Held f) = HeldWhole limits.counted f
TookHead limits (gathered.Skipped op count) = SkippedOne limits.passed op count

-- the instruction is refused because of the bytes taken
pub record RefusedHead (limits : Bounds) (old new : Intake) (most after : ℕ) (reason : Reason)
    : Type 0 where
  pub bytes : List ℕ
  pub refuses : Refuses (payload_limit_at limits bytes)
      old.source new.source bytes old.taken new.taken reason
  pub few : HoldsFew most bytes after

-- takes an instruction without holding a byte payload, or says why it is refused
abbrev pub TakesHead
    : Bounds → Result Gathered Reason → Intake → Intake → ℕ → ℕ → Type 0
TakesHead limits result old new most after =
    MatchResult result
    (λ g. TookHead limits g old new most after)
    (RefusedHead limits old new most after)
