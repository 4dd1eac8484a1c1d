-- What a loop over a reader's calls knows: the instructions returned so far.
use Rattle.std.specs.Prelude.{◌≡◌, ℕ, ◌+◌, List, [], ◌∷◌, ◌++◌, All, drop, length, Result, Ok, Err}
use Rattle.pkops.specs.Inst.{instruction_of}
use Rattle.pkops.specs.Limits.{Bounds}
use Rattle.pkops.specs.Payloads.{payload_limit}
use Rattle.pkops.specs.Spelling.{Counted, Instruction, instruction, spelling}
use Rattle.pkops.specs.declared.Inst.{Inst}
use Rattle.pkops.specs.declared.Op.{Op}
use Rattle.pkread.specs.Admission.{IsAllowedBy}
use Rattle.pkread.specs.Core.{Phase, Open, Ended, Refused}
use Rattle.pkread.specs.Heads.{IsSkipped, Skips, RefusesHead, StepsHead}
use Rattle.pkread.specs.AtHand.{AreNext, IsLent, beyond}
use Rattle.pkread.specs.ReaderCalls.{Refusal, Gives, RefusesAt, ReaderState, Steps, begun}
use Rattle.pkread.specs.Rows.{Sight, Takes}
use Rattle.pkread.specs.Sequence.{IsSequence, NoStop, StopIsLast, spellings}
use Rattle.pkread.specs.declared.reader.Head.{Head}
use Rattle.pkread.specs.declared.reader.Head.TheVariants as head
use Rattle.pkread.specs.declared.reader.Next.{Next}
use Rattle.pkread.specs.declared.reader.Next.TheVariants as next

-- STOP is the last instruction if the reader has ended, and absent while it is open; a reader that
-- has refused is excluded
abbrev pub SoFar : List Instruction → Phase → Type 0
SoFar instructions Open = NoStop instructions
SoFar instructions Ended = StopIsLast instructions
SoFar instructions (Refused refusal) = ⊥

-- a reader in this state has returned these instructions, each within the limit of its opcode,
-- since the source looked like `start` and `from` bytes were taken
pub record Reads (start : Sight) (from : ℕ) (limit : Op → ℕ) (instructions : List Instruction)
    (state : ReaderState) : Type 0 where
  pub each : All (IsAllowedBy limit) instructions
  pub so_far : SoFar instructions state.phase
  pub bytes : Takes start state.source (spellings instructions)
  pub count : state.taken ≡ from + length (spellings instructions)

-- a new reader has returned nothing
abbrev pub ReadingBegins : Type 0
ReadingBegins =
    (start : Sight) (limit : Op → ℕ) (limits : Bounds) →
    Reads start 0 limit [] (begun start limits)

-- an open reader has returned nothing since its current state
abbrev pub ReadingGoesOn : Type 0
ReadingGoesOn =
    (s : ReaderState) (limit : Op → ℕ) → s.phase ≡ Open → Reads s.source s.taken limit [] s

-- the limit that `next` uses: the same for all opcodes
abbrev pub HoldsTo : ReaderState → (Op → ℕ) → Type 0
HoldsTo state limit = (op : Op) → state.limits.counted ≡ limit op

-- the limits that `next_head` uses: passed opcodes have their own
abbrev pub PassesTo : ReaderState → (Op → ℕ) → Type 0
PassesTo state limit = (op : Op) → payload_limit state.limits op ≡ limit op

-- one more instruction was returned
pub record ReadsMore (start : Sight) (from : ℕ) (limit : Op → ℕ) (before : List Instruction)
    (i : Instruction) (after : ReaderState) : Type 0 where
  pub no_stop : NoStop before
  pub reads : Reads start from limit (before ++ i ∷ []) after

-- an instruction that `next` returns follows the earlier ones
abbrev pub NextIsRead : Type 0
NextIsRead =
    (start : Sight) (from : ℕ) (limit : Op → ℕ) (p : List Instruction) (old new : ReaderState)
    (result : Result Next Refusal) (at : ℕ) (inst : Inst) →
    HoldsTo old limit → Reads start from limit p old → Steps old result new →
    result ≡ Ok (next.Inst at inst) →
    ReadsMore start from limit p (instruction_of inst) new × Gives old at (instruction_of inst) new

-- like NextIsRead, for `next_head`
abbrev pub HeadIsRead : Type 0
HeadIsRead =
    (start : Sight) (from : ℕ) (limit : Op → ℕ) (p : List Instruction) (old new : ReaderState)
    (result : Result Head Refusal) (at : ℕ) (inst : Inst) →
    PassesTo old limit → Reads start from limit p old → StepsHead old result new →
    result ≡ Ok (head.Inst at inst) →
    ReadsMore start from limit p (instruction_of inst) new × Gives old at (instruction_of inst) new

-- when `next_head` skips a payload, the bytes taken spell an instruction with some payload of that
-- length, which follows the earlier ones
abbrev pub PassedIsRead : Type 0
PassedIsRead =
    (start : Sight) (from : ℕ) (limit : Op → ℕ) (p : List Instruction) (old new : ReaderState)
    (result : Result Head Refusal) (at : ℕ) (op : Op) (count : ℕ) →
    PassesTo old limit → Reads start from limit p old → StepsHead old result new →
    result ≡ Ok (head.Passed at op count) →
    (payload : List ℕ) × IsSkipped (limit op) op count payload
    × ReadsMore start from limit p (instruction op (Counted payload)) new
    × Takes old.source new.source (spelling (instruction op (Counted payload)))
    × (new.taken ≡ old.taken + length (spelling (instruction op (Counted payload))))
    × Skips old at op count new

-- an instruction lent from the bytes at hand follows the earlier ones once its bytes are taken, and
-- the bytes after it are the next ones then
abbrev pub LentIsRead : Type 0
LentIsRead =
    (start : Sight) (from : ℕ) (limit : Op → ℕ) (p : List Instruction) (s : ReaderState)
    (bytes : List ℕ) (i : Instruction) →
    PassesTo s limit → Reads start from limit p s → AreNext s bytes → IsLent s.limits bytes i →
    let t : ReaderState = beyond (length (spelling i)) s in
    ReadsMore start from limit p i t × Takes s.source t.source (spelling i)
    × AreNext t (drop (length (spelling i)) bytes)

-- taking bytes twice is taking them at once
abbrev pub TakingTwice : Type 0
TakingTwice =
    (first second : ℕ) (s : ReaderState) →
    beyond (first + second) s ≡ beyond second (beyond first s)

-- when a call reports the end, the instructions are a complete sequence, and nothing changed
abbrev pub EndIsRead : Type 0
EndIsRead =
    (start : Sight) (from : ℕ) (limit : Op → ℕ) (p : List Instruction) (old new : ReaderState)
    (result : Result Next Refusal) →
    Reads start from limit p old → Steps old result new → result ≡ Ok next.Ended →
    IsSequence limit p × (new ≡ old)

-- like EndIsRead, for `next_head`
abbrev pub EndOfHeads : Type 0
EndOfHeads =
    (start : Sight) (from : ℕ) (limit : Op → ℕ) (p : List Instruction) (old new : ReaderState)
    (result : Result Head Refusal) →
    Reads start from limit p old → StepsHead old result new → result ≡ Ok head.Ended →
    IsSequence limit p × (new ≡ old)

-- a refusal is the first one, and STOP was not returned before it
abbrev pub RefusalIsRead : Type 0
RefusalIsRead =
    (start : Sight) (from : ℕ) (limit : Op → ℕ) (p : List Instruction) (old new : ReaderState)
    (result : Result Next Refusal) (refusal : Refusal) →
    Reads start from limit p old → Steps old result new → result ≡ Err refusal →
    NoStop p × RefusesAt old refusal new

-- like RefusalIsRead, for `next_head`
abbrev pub RefusalOfHeads : Type 0
RefusalOfHeads =
    (start : Sight) (from : ℕ) (limit : Op → ℕ) (p : List Instruction) (old new : ReaderState)
    (result : Result Head Refusal) (refusal : Refusal) →
    Reads start from limit p old → StepsHead old result new → result ≡ Err refusal →
    NoStop p × RefusesHead old refusal new
