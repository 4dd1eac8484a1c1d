-- STOP among a list of instructions.
use Rattle.std.proofs.Common.{◌≢◌, ℕ, List, [], ◌∷◌, ◌++◌, sym, subst}
use Rattle.std.specs.Prelude.{⊤}
use Rattle.std.proofs.lemmas.List.Elements.{All-head, All-tail}
use Rattle.pkops.specs.Spelling.{Instruction}
use Rattle.pkops.specs.declared.Op.{Op}
use Rattle.pkops.specs.declared.Op.TheVariants as op
use Rattle.pkread.specs.Sequence.{IsSequence, NoStop}

-- no instruction is STOP
abbrev pub StopsNowhere : List Instruction → Type 0
StopsNowhere [] = ⊤
StopsNowhere (i ∷ is) = (i.op ≢ op.Stop) × StopsNowhere is

-- only the last instruction may be STOP
abbrev pub StopsLast : List Instruction → Type 0
StopsLast [] = ⊤
StopsLast (i ∷ []) = ⊤
StopsLast (i ∷ j ∷ is) = (i.op ≢ op.Stop) × StopsLast (j ∷ is)

pub stops_nowhere : (p : List Instruction) → NoStop p → StopsNowhere p
stops_nowhere [] h = tt
stops_nowhere (i ∷ p) h =
    (All-head (λ j. j.op ≢ op.Stop) i p h, stops_nowhere p (All-tail (λ j. j.op ≢ op.Stop) i p h))

-- like StopsNowhere, with one more instruction
pub last_more : (p : List Instruction) (i : Instruction) → StopsNowhere p → StopsLast (p ++ i ∷ [])
last_more [] i h = tt
last_more (x ∷ []) i h = (h.0, tt)
last_more (x ∷ y ∷ p) i h = (h.0, last_more (y ∷ p) i h.1)

pub nowhere_last : (p : List Instruction) → StopsNowhere p → StopsLast p
nowhere_last [] h = tt
nowhere_last (x ∷ []) h = tt
nowhere_last (x ∷ y ∷ p) h = (h.0, nowhere_last (y ∷ p) h.1)

-- no instruction before another is STOP
pub nowhere_before : (before : List Instruction) (i : Instruction) (after : List Instruction)
    → StopsLast (before ++ i ∷ after) → StopsNowhere before
nowhere_before [] i after h = tt
nowhere_before (x ∷ []) i after h = (h.0, tt)
nowhere_before (x ∷ y ∷ before) i after h = (h.0, nowhere_before (y ∷ before) i after h.1)

pub after_first : (i : Instruction) (is : List Instruction) → StopsLast (i ∷ is) → StopsLast is
after_first i [] h = tt
after_first i (j ∷ is) h = h.1

-- a complete sequence ends with STOP
pub sequence_last : {limit : Op → ℕ} {p : List Instruction} → IsSequence limit p → StopsLast p
sequence_last w = let s = w.stops in subst StopsLast (sym s.2)
    (last_more s.0 s.1 (stops_nowhere s.0 s.4))
