-- What a scan answers.
use Rattle.std.specs.Prelude.{ℕ, ◌≤◌, List, length, take}
use Rattle.pkops.specs.declared.found.Scan.{Scan}
use Rattle.pkops.specs.declared.found.Scan.TheVariants as scan
use Rattle.pkops.specs.Inst.{instruction_of}
use Rattle.pkops.specs.Spelling.{Instruction}
use Rattle.pkops.specs.Scans.{Fault, IsWithin, Spells, Begun, HasFault}

-- an answer as a value, whatever memory holds its bytes
pub data Answer : Type 0 where
  Whole : Instruction → ℕ → Answer
  More : Answer
  Bad : Fault → Answer

-- the answer that the program's `Scan` stands for
abbrev pub shown_scan : Scan → Answer
shown_scan (scan.Whole inst n) = Whole (instruction_of inst) n
shown_scan scan.More = More
shown_scan (scan.Bad fault) = Bad fault

-- the first n bytes spell the instruction, within the limit
pub record IsWhole (limit : ℕ) (bytes : List ℕ) (i : Instruction) (n : ℕ) : Type 0 where
  pub fits : n ≤ length bytes
  pub spells : Spells i (take n bytes)
  pub within : IsWithin limit i.arg

-- the answer is right when a payload may have at most `limit` bytes
abbrev pub Answers : ℕ → List ℕ → Answer → Type 0
Answers limit bytes (Whole i n) = IsWhole limit bytes i n
Answers limit bytes More = Begun limit bytes
Answers limit bytes (Bad fault) = HasFault limit fault bytes
