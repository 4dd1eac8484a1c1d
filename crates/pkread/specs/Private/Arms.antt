-- How the arms take the bytes of one instruction.
use Rattle.std.specs.Prelude.{◌≡◌, ◌≢◌, ◌⊎◌, ℕ, ◌+◌, ◌<◌, ◌≤◌, List, [], ◌∷◌, ◌++◌, length}
use Rattle.std.specs.Prelude.{None, Result, MatchResult, slice_index, take, true, false, Bool, ◌/◌}
use Rattle.std.specs.Prelude.{◌%◌, if◌then◌else◌}
use Rattle.std.specs.Char.{is_ascii_digit}
use Rattle.std.specs.List.{AllByRecursion, list_all}
use Rattle.std.specs.Io.KnownBytes.{IsAtEnd}
use Rattle.pkops.specs.Contents.{IsGood, Keeps}
use Rattle.pkops.specs.Limits.{Bounds}
use Rattle.pkops.specs.KnownLayout.{IsFixed, Lies, count_in, field_len}
use Rattle.pkops.specs.Payloads.{payload_limit}
use Rattle.pkops.specs.RuleTests.{is_natural}
use Rattle.pkops.specs.Scans.{Begun}
use Rattle.pkops.specs.Spelling.{Argument, IsLine, Line, count_limit, instruction, layout_at}
use Rattle.pkops.specs.Spelling.{line_feed, size_of}
use Rattle.pkops.specs.Table.{code_of}
use Rattle.pkops.specs.declared.Op.{Op}
use Rattle.pkops.specs.declared.Op.TheVariants as op
use Rattle.pkops.specs.declared.Rule.{Rule}
use Rattle.pkops.specs.declared.Reason.{Reason}
use Rattle.pkops.specs.declared.Reason.TheVariants.{Source, Truncated, TooLarge}
use Rattle.pkops.specs.declared.Reason.TheVariants.{OutOfMemory}
use Rattle.pkread.specs.Admission.{objection}
use Rattle.pkread.specs.Framing.{other}
use Rattle.pkread.specs.Pieces.{role_of}
use Rattle.pkread.specs.Private.Judgement.{is_plain}
use Rattle.pkread.specs.Private.Progress.{Intake}
use Rattle.pkread.specs.Private.Reads.{LackRow, Took}
use Rattle.pkread.specs.Pull.{AreAllBytes}
use Rattle.pkread.specs.Rows.{Sight, Fails, FrontsBegin, IsAmiss, Refuses, Takes, all_bytes}
use Rattle.pkread.specs.declared.arms.Count.{Count}
use Rattle.pkread.specs.declared.gather.Found.{Found}

-- the bytes of an instruction were taken, and no shorter prefix is a whole one
pub record Gathers (limit : ℕ) (old new : Intake) : Type 0 where
  pub taken : new.taken ≡ old.taken + length new.bytes
  pub fronts : FrontsBegin limit new.bytes
  pub source : Takes old.source new.source new.bytes

-- what a reason says if `bytes` are those of the instruction so far, and only `run`, at their end,
-- was taken between the two views of the source
abbrev pub RowBehind : ℕ → Sight → Sight → List ℕ → List ℕ → ℕ → Reason → Type 0
RowBehind limit before after run bytes taken Source = Fails before after run × Begun limit bytes
RowBehind limit before after run bytes taken Truncated =
    Takes before after run × IsAtEnd after.left × (taken < all_bytes) × Begun limit bytes
RowBehind limit before after run bytes taken TooLarge =
    Takes before after run
    × (IsAmiss limit bytes TooLarge ⊎ (Begun limit bytes × (taken ≡ all_bytes)))
RowBehind limit before after run bytes taken OutOfMemory =
    Takes before after run × Begun limit bytes
RowBehind limit before after run bytes taken reason =
    Takes before after run × IsAmiss limit bytes reason

-- bytes were appended, and the result spells the opcode with an argument
pub record Grows (limit : ℕ) (op : Op) (split : ℕ) (old new : Intake) : Type 0 where
  pub bytes : List ℕ
  pub took : Took bytes old new
  pub arg : Argument
  pub lies : Lies limit op arg split new.bytes

-- bytes were appended up to the one that shows the reason
pub record Stops (limit : ℕ) (old new : Intake) (reason : Reason) : Type 0 where
  pub bytes : List ℕ
  pub held : new.bytes ≡ old.bytes ++ bytes
  pub count_is : new.taken ≡ old.taken + length bytes
  pub fronts : FrontsBegin limit new.bytes
  pub row : RowBehind limit old.source new.source bytes new.bytes new.taken reason

-- a count was taken, and it is within the limit
pub record Counts (c : Count) (n : ℕ) (old new : Intake) : Type 0 where
  pub field : List ℕ
  pub took : Took field old new
  pub len : length field ≡ size_of c.width
  pub count : n ≡ count_in c.width field
  pub under : n < count_limit c.width c.signed
  pub within : n ≤ c.limit

-- a line of at most `most` bytes was taken
pub record TookLine (most : ℕ) (old new : Intake) : Type 0 where
  pub text : List ℕ
  pub took : Took (text ++ line_feed ∷ []) old new
  pub line : IsLine most text

-- why no line was taken: the next byte could not be read, or the line is too long
abbrev pub LineRow : ℕ → Sight → Sight → List ℕ → ℕ → Reason → Type 0
LineRow most before after bytes u TooLarge =
    Takes before after bytes
    × (((length bytes ≤ most) × (u ≡ all_bytes)) ⊎ (length bytes ≡ most + 1))
LineRow most before after bytes u reason =
    (length bytes ≤ most) × LackRow before after bytes u reason

-- bytes without a newline were taken, but no complete line
pub record LacksLine (most : ℕ) (old new : Intake) (reason : Reason) : Type 0 where
  pub bytes : List ℕ
  pub fit : AreAllBytes bytes
  pub held : new.bytes ≡ old.bytes ++ bytes
  pub count_is : new.taken ≡ old.taken + length bytes
  pub endless : AllByRecursion (λ byte. byte ≢ line_feed) bytes
  pub row : LineRow most old.source new.source bytes new.taken reason

-- the bytes spell the opcode with an argument that is good and admitted; `split` is where its first
-- line ends
pub record IsFound (limit : ℕ) (bytes : List ℕ) (op : Op) (split : ℕ) : Type 0 where
  pub arg : Argument
  pub lies : Lies limit op arg split bytes
  pub good : IsGood (instruction op arg)
  pub admitted : objection (instruction op arg) ≡ None

-- bytes were appended, and the result spells the opcode with an argument that is good and admitted
pub record Finds (limit : ℕ) (op : Op) (split : ℕ) (old new : Intake) : Type 0 where
  pub bytes : List ℕ
  pub took : Took bytes old new
  pub found : IsFound limit new.bytes op split

-- an instruction of this opcode has n bytes, whatever they are, is good and admitted, and is
-- neither STOP nor FRAME
pub record HasFixedLength (op : Op) (n : ℕ) : Type 0 where
  pub fixed : IsFixed (layout_at op)
  pub length_is : n ≡ field_len (layout_at op) + 1
  pub plain : is_plain op ≡ true
  pub role : role_of op 0 ≡ other

-- the first n bytes are an instruction of this opcode, which is neither STOP nor FRAME, within the
-- limits
pub record IsFront (limits : Bounds) (op : Op) (split n : ℕ) (bytes : List ℕ) : Type 0 where
  pub found : IsFound (payload_limit limits op) (take n bytes) op split
  pub role : role_of op 0 ≡ other
  pub within : n ≤ length bytes

-- the opcode has two lines
abbrev pub has_two_lines : Op → Bool
has_two_lines op.Global = true
has_two_lines op.Inst = true
has_two_lines _ = false

-- one number says how long an instruction is. With two lines, it is 512 times the length of the
-- first plus the length of the instruction, both below 512
abbrev pub first_of : Op → ℕ → ℕ
first_of o lengths = if has_two_lines o then lengths / 512 else 0

abbrev pub length_of : Op → ℕ → ℕ
length_of o lengths = if has_two_lines o then lengths % 512 else lengths

-- like IsFront, with both lengths in one number
abbrev pub IsInFront : Bounds → Op → ℕ → List ℕ → Type 0
IsInFront limits o lengths bytes = IsFront limits o (first_of o lengths) (length_of o lengths) bytes

-- the bytes begin with the code of the opcode, unless that is STOP
abbrev pub HasCode : Op → List ℕ → Type 0
HasCode o bytes = o ≢ op.Stop → code_of o ≡ slice_index bytes 0

-- after the code come a line that obeys the rule, and its line feed: n bytes with the code
pub record HasLine (rule : Rule) (n : ℕ) (bytes : List ℕ) : Type 0 where
  pub line : List ℕ
  pub behind : List ℕ
  pub spelled : bytes ≡ slice_index bytes 0 ∷ (line ++ line_feed ∷ behind)
  pub count : n ≡ length line + 2
  pub short : IsLine 256 line
  pub obeys : Keeps rule (Line line)

-- the first n bytes are the digits of a natural number, and a line feed follows
pub record BeginsWithNumber (n : ℕ) (bytes : List ℕ) : Type 0 where
  pub inside : n < length bytes
  pub feed : slice_index bytes n ≡ line_feed
  pub digits : list_all is_ascii_digit (take n bytes) ≡ true
  pub natural : is_natural (take n bytes) ≡ true

-- takes a line, or says why not
abbrev pub TakesLine : {A : Type 0} → ℕ → Result A Reason → Intake → Intake → Type 0
TakesLine most result old new =
    MatchResult result (λ _. TookLine most old new) (LacksLine most old new)

-- takes a count, or says why not
abbrev pub TakesCount : Count → Result ℕ Reason → Intake → Intake → Type 0
TakesCount c result old new = MatchResult result (λ n. Counts c n old new) (Stops c.limit old new)

-- takes and judges the argument of an opcode, or says why not
abbrev pub TakesArgument : {A : Type 0} → ℕ → Op → Result A Reason → Intake → Intake → Type 0
TakesArgument limit op result old new =
    MatchResult result (λ _. Finds limit op 0 old new) (Stops limit old new)

-- like TakesArgument, and returns where the first line ends
abbrev pub TakesSplit : ℕ → Op → Result ℕ Reason → Intake → Intake → Type 0
TakesSplit limit op result old new =
    MatchResult result (λ split. Finds limit op split old new) (Stops limit old new)

-- takes a code, or says why not, under any limit
abbrev pub TakesOp : Result Op Reason → Intake → Intake → Type 0
TakesOp result old new =
    MatchResult result
    (λ op. Took (code_of op ∷ []) old new)
    (λ reason. (limit : ℕ) → Stops limit old new reason)

-- takes an instruction, or says why not
abbrev pub TakesFound : ℕ → Result Found Reason → Intake → Intake → Type 0
TakesFound limit result old new =
    MatchResult result (λ f. Finds limit f.op f.split old new) (Stops limit old new)

-- takes a whole instruction, or says why it is refused
abbrev pub TakesWhole : ℕ → Result Found Reason → Intake → Intake → Type 0
TakesWhole limit result old new =
    MatchResult result
    (λ f. IsFound limit new.bytes f.op f.split × Gathers limit old new)
    (Refuses limit old.source new.source new.bytes old.taken new.taken)
