-- One step of a whole run.
use Rattle.pkmachine.specs.declared.old_strings.OldStrings.{OldStrings}
use Rattle.std.proofs.Common.{Some, ◌≡◌, ◌≢◌, ℕ, Bool, true, false, List, [], ◌∷◌, Result, Ok, Err}
use Rattle.std.proofs.Common.{refl}
use Rattle.std.specs.Prelude.{All}
use Rattle.std.proofs.lemmas.List.Elements.{All-cons}
use Rattle.pkops.specs.Operands.{memo_number}
use Rattle.pkops.specs.Spelling.{Instruction}
use Rattle.pkops.specs.declared.Op.TheVariants as op
use Rattle.pkmachine.specs.declared.effect.Names.{Names}
use Rattle.pkmachine.specs.declared.effect.Gives.{Gives}
use Rattle.pkmachine.specs.Effects.{Effect, Operates, Moves, Stops, Raises, effect_as}
use Rattle.pkstack.specs.Shape.{Breach, Shape, Taken, moved, operands}
use Rattle.pkmachine.specs.Runs.{Go, Raise, move_step, State, Outcome, CanCome, Stepped, WentOn}
use Rattle.pkmachine.specs.Runs.{Stopped, Named, NoImport, Pair, NotTexts, asks, come_of, operated}
use Rattle.pkmachine.specs.Runs.{operate_step, perform, step_as, effect_asks}
use Rattle.pkmachine.specs.Knowledge.{Progress}
use Rattle.pkcheck.proofs.Wholes.StopEffects.{only_stop}
use Rattle.pkmachine.specs.Covers.{Adds, Covers, Follows}
use Rattle.pkmachine.specs.WholeRuns.{Ended, Reached, first_outcome, outcomes_after, go_on, run_as}
use Rattle.pkmachine.specs.Witnesses.{Answered, CoversBy, StepsPast}

-- a step that asks nothing ignores the outcome
come_unused : (b : Bool) (gives : Gives) (i : Instruction) (t : Taken ℕ) (o q : Outcome) (s : State)
    → b ≡ false → come_of b gives i t o s ≡ come_of b gives i t q s
come_unused true gives i t o q s e = cc
come_unused false gives i t o q s e = refl

operated_unused : (n : Named) (gives : Gives) (i : Instruction) (t : Taken ℕ) (o q : Outcome)
    (s : State) → asks gives ≡ false → operated n gives i t o s ≡ operated n gives i t q s
operated_unused NoImport gives i t o q s e = come_unused (asks gives) gives i t o q s e
operated_unused (Pair a b) gives i t o q s e = come_unused (asks gives) gives i t o q _ e
operated_unused NotTexts gives i t o q s e = refl

step_unused : (names : Names) (gives : Gives) (i : Instruction) (o q : Outcome) (s : State)
    (y : Result (Taken ℕ) Breach) → asks gives ≡ false
    → operate_step names gives i o s y ≡ operate_step names gives i q s y
step_unused names gives i o q s (Ok t) e = operated_unused _ gives i t o q s e
step_unused names gives i o q s (Err b) e = refl

pub perform_unused : (e : Effect) (i : Instruction) (s : State) (o q : Outcome)
    → effect_asks e ≡ false → perform e i s o ≡ perform e i s q
perform_unused (Operates takes names gives) i s o q h =
    step_unused names gives i o q s (operands takes s.shape.entries) h
perform_unused (Moves m) i s o q h = refl
perform_unused Stops i s o q h = refl
perform_unused Raises i s o q h = refl

-- only STOP stops
asked_stops : (b : Bool) (gives : Gives) (i : Instruction) (t : Taken ℕ) (o : Outcome) (r : ℕ)
    (s u : State) → come_of b gives i t o s ≡ Stopped r u → ⊥
asked_stops true gives i t Raise r s u e = cc
asked_stops true gives i t (Go n k) r s u e = cc
asked_stops false gives i t o r s u e = cc

operate_stops : (nm : Named) (gives : Gives) (i : Instruction) (t : Taken ℕ) (o : Outcome) (r : ℕ)
    (s u : State) → operated nm gives i t o s ≡ Stopped r u → ⊥
operate_stops NoImport gives i t o r s u e = asked_stops (asks gives) gives i t o r s u e
operate_stops (Pair a b) gives i t o r s u e = asked_stops (asks gives) gives i t o r _ u e
operate_stops NotTexts gives i t o r s u e = cc

next_stops : (names : Names) (gives : Gives) (i : Instruction) (o : Outcome) (r : ℕ) (s u : State)
    (y : Result (Taken ℕ) Breach) → operate_step names gives i o s y ≡ Stopped r u → ⊥
next_stops names gives i o r s u (Ok t) e = operate_stops _ gives i t o r s u e
next_stops names gives i o r s u (Err b) e = cc

shape_stops : (r : ℕ) (s u : State) (y : Result (Shape ℕ) Breach) → move_step s y ≡ Stopped r u → ⊥
shape_stops r s u (Ok h) e = cc
shape_stops r s u (Err b) e = cc

pub stopped_by_stop : (e : Effect) (i : Instruction) (r : ℕ) (s u : State) (o : Outcome)
    → perform e i s o ≡ Stopped r u → e ≡ Stops
stopped_by_stop (Operates takes names gives) i r s u o h =
    absurd (next_stops names gives i o r s u (operands takes s.shape.entries) h)
stopped_by_stop (Moves m) i r s u o h =
    absurd (shape_stops r s u (moved m (memo_number i) s.shape) h)
stopped_by_stop Stops i r s u o h = refl
stopped_by_stop Raises i r s u o h = cc

-- any other instruction doesn't stop
pub never_stops : (setting : OldStrings) (i : Instruction) → i.op ≢ op.Stop → (s : State)
    (o : Outcome) (r : ℕ) (u : State) → step_as setting i s o ≡ Stopped r u → ⊥
never_stops setting i other s o r u e =
    only_stop setting i other (stopped_by_stop (effect_as setting i) i r s u o e)

pub kept : (os : List Outcome) → outcomes_after false os ≡ os
kept [] = refl
kept (o ∷ os) = refl

-- a run whose first outcome is this one if the step asks
pub run_on : (setting : OldStrings) (i : Instruction) (is : List Instruction) (s : State)
    (o : Outcome) (os : List Outcome) {x : Ended} → CanCome o → All CanCome os
    → go_on (step_as setting i s o) (run_as setting is os) ≡ x
    → (qs : List Outcome) × All CanCome qs × (run_as setting (i ∷ is) qs s ≡ x)
run_on setting i is s o os {x} can all e = by_asking (effect_asks (effect_as setting i)) refl
  where
    by_asking : (b : Bool) → effect_asks (effect_as setting i) ≡ b
        → (qs : List Outcome) × All CanCome qs × (run_as setting (i ∷ is) qs s ≡ x)
    by_asking true b = (o ∷ os, All-cons CanCome o os can all, rw b e)
    by_asking false b = (
      os,
      all,
      rw (b, kept os, perform_unused (effect_as setting i) i s (first_outcome os) o b) e,
    )

pub same_reached : (s t : State) → Reached s ≡ Reached t → s ≡ t
same_reached s t e = cc

pub same_some : (s t : State) → Some s ≡ Some t → s ≡ t
same_some s t e = cc

-- a run that gets past a step goes on behind it
pub gets_past : (q : Progress) (s : State) (st : Stepped) (f : State → Ended) (t : State)
    → Follows q s st → go_on st f ≡ Reached t
    → (u : State) × Covers q.after u × Adds q.import s.events u.events × (f u ≡ Reached t)
gets_past q s (WentOn u) f t h e = (u, h.0, h.1, e)
gets_past q s _ f t h e = cc

-- a step that doesn't stop and gets past its instruction goes on
pub gone : (v : List ℕ) (q : Progress) (st : Stepped) → ((r : ℕ) (u : State) → st ≡ Stopped r u
    → ⊥) → StepsPast v q.after st → (u : State) × (st ≡ WentOn u) × CoversBy (Answered v) q.after u
gone v q (WentOn u) on h = (u, refl, h)
gone v q (Stopped r u) on h = absurd (on r u refl)
gone v q _ on h = absurd h
