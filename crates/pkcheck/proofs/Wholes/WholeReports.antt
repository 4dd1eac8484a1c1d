-- What a listener hears that hears each instruction whole, behind nothing.
use Rattle.std.proofs.Common.{◌≡◌, ◌+◌, ℕ, List, [], ◌∷◌, ◌++◌, true, arith, length, refl}
use Rattle.pkops.specs.Limits.{Bounds}
use Rattle.pkops.specs.Spelling.{Instruction}
use Rattle.pkread.specs.Rows.{Sight}
use Rattle.pkread.specs.Sequence.{spellings}
use Rattle.pkmachine.specs.Faults.{InEachRun}
use Rattle.pkcheck.specs.Heard.{AreHeardBehind, Heard, IsCutShort}
use Rattle.pkmachine.specs.Knowledge.{Policy}
use Rattle.pkcheck.specs.ThreeEnds.{StoppedFrom}
use Rattle.pkcheck.specs.Private.WholeReports.{whole_of, wholes}
use Rattle.pkcheck.specs.Reports.{AreReportsBehind, Report, Told, Whole}
use Rattle.pkmachine.specs.RowRuns.{Afresh, RunsFrom}
use Rattle.pkstack.specs.Shape.{marks_of}
use Rattle.pkmachine.specs.declared.old_strings.OldStrings.TheVariants.{Unknown}

-- what was heard of one instruction
one_whole : (before : List Instruction) (i : Instruction) (is : List Instruction) (at n : ℕ)
    (t : Told) (hs : List Heard) → t ≡ Whole i → at ≡ 0 + length (spellings before)
    → InEachRun (RunsFrom Unknown Afresh before) (λ state. n ≡ marks_of state.shape.entries)
    → AreHeardBehind (before ++ i ∷ []) is hs
    → AreHeardBehind before (i ∷ is) (whole_of at n t ++ hs)
one_whole before i is at n t hs same place marks more =
    rw same (record { same = refl; place = omega (arith, place); marks = marks }, more)

-- and of all
pub heard_wholes : (before is : List Instruction) (rs : List Report)
    → AreReportsBehind true Unknown Afresh 0 before is rs → AreHeardBehind before is (wholes rs)
heard_wholes before [] [] h = tt
heard_wholes before (i ∷ is) (r ∷ rs) (one, more) =
    one_whole before i is r.at r.marks r.told (wholes rs) one.same one.place one.marks
    (heard_wholes (before ++ i ∷ []) is rs more)
heard_wholes before _ _ e = absurd e

-- the listener failed
pub cut_short : (policy : Policy) (limits : Bounds) (old new : Sight) (rs : List Report)
    (h : StoppedFrom Unknown Afresh policy limits old new)
    → AreReportsBehind true Unknown Afresh 0 [] h.instructions rs
    → IsCutShort policy limits old new (wholes rs)
cut_short policy limits old new rs h each = record {
  before = h.instructions;
  instruction = h.instruction;
  goes_on = h.goes_on;
  admitted = h.admitted;
  bytes = h.bytes;
  framed = h.framed;
  faultless = h.faultless;
  each = heard_wholes [] h.instructions rs each;
}
