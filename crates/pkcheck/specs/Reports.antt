-- What a listener observes during a check: each instruction that was read completely and admitted,
-- with its offset and the number of marks on the stack before it.
use Rattle.std.specs.Prelude.{◌≡◌, ◌+◌, ⊤, ℕ, Bool, true, false, List, [], ◌∷◌, ◌++◌, length}
use Rattle.std.specs.Prelude.{if◌then◌else◌}
use Rattle.pkops.specs.Payloads.{is_passed}
use Rattle.pkops.specs.Spelling.{Instruction, spelling}
use Rattle.pkops.specs.declared.Op.{Op}
use Rattle.pkread.specs.Sequence.{spellings}
use Rattle.pkmachine.specs.declared.old_strings.OldStrings.{OldStrings}
use Rattle.pkmachine.specs.Faults.{InEachRun}
use Rattle.pkmachine.specs.RowRuns.{Beginning, RunsFrom}
use Rattle.pkstack.specs.Shape.{marks_of}

-- an instruction as a listener observes it: whole, or only its opcode and the number of its
-- bytes, because its payload is skipped
pub data Told : Type 0 where
  Whole : Instruction → Told
  Skipped : Op → ℕ → Told

-- what is said of an instruction. Payloads of plain bytes are skipped, unless all payloads are held
abbrev pub told_of : (holding : Bool) → Instruction → Told
told_of true i = Whole i
told_of false i = if is_passed i.op then Skipped i.op (length (spelling i)) else Whole i

-- what is reported, the offset of the first byte, and the number of marks on the stack before it
pub record Report : Type 0 where
  pub at : ℕ
  pub told : Told
  pub marks : ℕ

-- a Report from its parts
abbrev pub report : ℕ → Told → ℕ → Report
report at told marks = record { at = at; told = told; marks = marks }

-- in runs that begin like this, of a pickle with this offset
module _ (holding : Bool) (setting : OldStrings) (beginning : Beginning) (from : ℕ) where
  -- the report of an instruction that follows these
  pub record IsReportOf (before : List Instruction) (i : Instruction) (r : Report) : Type 0 where
    pub same : r.told ≡ told_of holding i
    pub place : r.at ≡ from + length (spellings before)
    -- some run reaches the instruction, and in every run that does this many marks are on the stack
    pub marks : InEachRun (RunsFrom setting beginning before)
        (λ state. r.marks ≡ marks_of state.shape.entries)

  -- the reports of the instructions that follow these: one for each, in order
  abbrev pub AreReportsBehind : List Instruction → List Instruction → List Report → Type 0
  AreReportsBehind before [] [] = ⊤
  AreReportsBehind before (i ∷ is) (r ∷ rs) =
      IsReportOf before i r × AreReportsBehind (before ++ i ∷ []) is rs
  AreReportsBehind before [] (r ∷ rs) = ⊥
  AreReportsBehind before (i ∷ is) [] = ⊥
