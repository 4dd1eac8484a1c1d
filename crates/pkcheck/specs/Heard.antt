-- What a listener observes during a check: each instruction that was read completely and admitted,
-- with its offset and the number of marks on the stack before it.
use Rattle.std.specs.Prelude.{◌≡◌, ⊤, ℕ, List, [], ◌∷◌, ◌++◌, length, map, All, Result, Ok, Err}
use Rattle.std.specs.Prelude.{Option}
use Rattle.pkops.specs.Limits.{Bounds}
use Rattle.pkops.specs.Payloads.{payload_limit}
use Rattle.pkops.specs.Spelling.{Instruction}
use Rattle.pkops.specs.declared.Reason.{Reason}
use Rattle.pkread.specs.Admission.{IsAllowedBy}
use Rattle.pkread.specs.Framing.{Framed}
use Rattle.pkread.specs.Pieces.{piece_of}
use Rattle.pkread.specs.Rows.{Sight, Takes}
use Rattle.pkread.specs.Sequence.{NoStop, spellings}
use Rattle.pkcheck.specs.Answered.{IsRightAnswer}
use Rattle.pkmachine.specs.Faults.{InEachRun}
use Rattle.pkmachine.specs.declared.old_strings.OldStrings.{OldStrings}
use Rattle.pkmachine.specs.declared.old_strings.OldStrings.TheVariants.{Unknown}
use Rattle.pkmachine.specs.Knowledge.{Policy}
use Rattle.pkimport.specs.Import.{Asked}
use Rattle.pkcheck.specs.Refused.{Why, reading, judging, growing}
use Rattle.pkmachine.specs.RowRuns.{Afresh, Beginning, RunsBehind}
use Rattle.pkcheck.specs.RunFaults.{IsFaultless}
use Rattle.pkstack.specs.Shape.{marks_of}
use Rattle.pkcheck.specs.declared.checking.Yes.{Yes}
use Rattle.pkcheck.specs.declared.checking.No.{No}

-- an instruction, the offset of its first byte, and the number of marks on the stack before it
pub record Heard : Type 0 where
  pub at : ℕ
  pub instruction : Instruction
  pub marks : ℕ

-- a Heard from its parts
abbrev pub heard : ℕ → Instruction → ℕ → Heard
heard at instruction marks = record { at = at; instruction = instruction; marks = marks }

-- what is observed of an instruction that follows these
pub record IsHeardOf (before : List Instruction) (i : Instruction) (h : Heard) : Type 0 where
  pub same : h.instruction ≡ i
  pub place : h.at ≡ length (spellings before)
  -- some run reaches the instruction, and in every run that does this many marks are on the stack
  pub marks :
      InEachRun (RunsBehind Unknown before) (λ state. h.marks ≡ marks_of state.shape.entries)

-- what is observed of the instructions that follow these: one item for each, in order
abbrev pub AreHeardBehind : List Instruction → List Instruction → List Heard → Type 0
AreHeardBehind before [] [] = ⊤
AreHeardBehind before (i ∷ is) (h ∷ hs) =
    IsHeardOf before i h × AreHeardBehind (before ++ i ∷ []) is hs
AreHeardBehind before [] (h ∷ hs) = ⊥
AreHeardBehind before (i ∷ is) [] = ⊥

-- the refused instruction, if it was read completely and admitted
abbrev pub refused_instruction : {setting : OldStrings} {beginning : Beginning} {policy : Policy}
    {limits : Bounds} {before : List Instruction} {here new : Sight} {at : ℕ} {reason : Reason}
    {pair : Option Asked} → Why setting beginning policy limits before here new at reason pair
    → List Instruction
refused_instruction (reading h) = []
refused_instruction (judging h) = h.instruction ∷ []
refused_instruction (growing h) = h.instruction ∷ []

-- the instructions that a right answer covers: the accepted ones, and then the refused one
abbrev pub instructions_of : (policy : Policy) (limits : Bounds) (old new : Sight)
    (answer : Result Yes No) → IsRightAnswer Unknown policy limits old new answer → List Instruction
instructions_of policy limits old new (Ok accepted) right = right.instructions
instructions_of policy limits old new (Err refused) right =
    right.instructions ++ refused_instruction right.why

-- the answer is right, and the listener observed every instruction that it covers, in order
pub record IsRightAndHeard (policy : Policy) (limits : Bounds) (old new : Sight)
    (answer : Result Yes No) (hs : List Heard) : Type 0 where
  pub right : IsRightAnswer Unknown policy limits old new answer
  pub each : AreHeardBehind [] (instructions_of policy limits old new answer right) hs

-- the listener's own error ended the check: it observed these, and failed at one more instruction
-- that was read completely and admitted
pub record IsCutShort (policy : Policy) (limits : Bounds) (old new : Sight) (hs : List Heard)
    : Type 0 where
  -- the instructions before it contain no STOP; each is good, admitted and within the limit of its
  -- opcode, and so is the one at which the listener failed
  pub before : List Instruction
  pub instruction : Instruction
  pub goes_on : NoStop before
  pub admitted : All (IsAllowedBy (payload_limit limits)) (before ++ instruction ∷ [])
  -- exactly the bytes that spell them were taken
  pub bytes : Takes old new (spellings (before ++ instruction ∷ []))
  -- each of those before obeys the frame rules, and none has a fault
  pub framed : Framed (map piece_of before)
  pub faultless : IsFaultless Unknown Afresh policy limits before
  -- the listener observed those before, in order, and nothing else
  pub each : AreHeardBehind [] before hs
