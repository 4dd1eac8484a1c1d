-- Some run gets past accepted instructions: one whose answers are all new objects with one text.
use Rattle.std.proofs.Common.{◌≡◌, ℕ, Bool, true, false, List, [], ◌∷◌, ◌++◌, Option, Result, Ok}
use Rattle.std.proofs.Common.{Err, refl, sym, ap, subst, ◌∙◌, arith}
use Rattle.std.specs.Prelude.{All, ⊤}
use Rattle.std.proofs.lemmas.List.Elements.{All-cons, All-nil}
use Rattle.pkops.specs.Limits.{Bounds}
use Rattle.pkops.specs.Spelling.{Instruction}
use Rattle.pkops.specs.declared.Op.TheVariants as op
use Rattle.pkimport.specs.Import.{Asked}
use Rattle.pkstack.specs.Shape.{Breach, Entry, top}
use Rattle.pkmachine.specs.Effects.{Effect, Stops, effect_as}
use Rattle.pkmachine.specs.Knowledge.{Knowledge, Policy}
use Rattle.pkmachine.specs.Runs.{CanCome, Outcome, State, Stepped, Stopped, WentOn, effect_asks}
use Rattle.pkmachine.specs.Runs.{perform, step_as, stop_step}
use Rattle.pkmachine.specs.StepLaws.{StepLaws}
use Rattle.pkmachine.specs.WholeRuns.{Ended, EndedBy, Reached, first_outcome, go_on, run_as}
use Rattle.pkmachine.specs.Witnesses.{Answered, CoversBy, StepsPast, Word, new_text}
use Rattle.pkmachine.specs.declared.old_strings.OldStrings.{OldStrings}
use Rattle.pkcheck.specs.NewRuns.{AnswersNew, IfWentOn, IsNew, Obeys}
use Rattle.pkcheck.proofs.Wholes.RunSteps.{gone, kept, never_stops, perform_unused}
use Rattle.pkcheck.proofs.Wholes.StopEffects.{stop_stops}
use Rattle.pkcheck.proofs.Wholes.Stops.{StopsNowhere}
use Rattle.pkcheck.proofs.Wholes.Walk.{Accepts, accepts_first, accepts_none}

-- STOP does not go on
never_on : (s u : State) (x : Result (ℕ × List (Entry ℕ)) Breach) → stop_step s x ≡ WentOn u → ⊥
never_on s u (Ok t) e = cc
never_on s u (Err b) e = cc

stop_ends : (e : Effect) (i : Instruction) (s u : State) (o : Outcome) → e ≡ Stops
    → perform e i s o ≡ WentOn u → ⊥
stop_ends Stops i s u o same h = never_on s u (top s.shape.entries) h
stop_ends _ i s u o same h = cc

-- a step and the run behind it, whose outcomes are these
new_on : (setting : OldStrings) (i : Instruction) (is : List Instruction) (s : State) (o : Outcome)
    (os : List Outcome) {x : Ended} → CanCome o → All CanCome os → IsNew s o
    → IfWentOn (step_as setting i s o) (Obeys AnswersNew setting is os)
    → go_on (step_as setting i s o) (run_as setting is os) ≡ x
    → (qs : List Outcome) × All CanCome qs × Obeys AnswersNew setting (i ∷ is) qs s
    × (run_as setting (i ∷ is) qs s ≡ x)
new_on setting i is s o os {x} can all new w g =
    by_asking (effect_asks (effect_as setting i)) refl
  where
    by_asking : (b : Bool) → effect_asks (effect_as setting i) ≡ b
        → (qs : List Outcome) × All CanCome qs × Obeys AnswersNew setting (i ∷ is) qs s
        × (run_as setting (i ∷ is) qs s ≡ x)
    by_asking true b = (o ∷ os, All-cons CanCome o os can all, rw b (new, w), rw b g)
    by_asking false b =
        let same = perform_unused (effect_as setting i) i s (first_outcome os) o b in
        (os, all, rw (b, kept os, same) (tt, w), rw (b, kept os, same) g)

-- the run got past its instructions to a state that is covered
abbrev pub Comes : List ℕ → Knowledge → Ended → Type 0
Comes text known (Reached t) = CoversBy (Answered text) known t
Comes text known (EndedBy (Stopped r t)) = CoversBy (Answered text) known t
Comes text known _ = ⊥

abbrev pub IsStopped : Ended → Type 0
IsStopped (EndedBy (Stopped r t)) = ⊤
IsStopped _ = ⊥

-- the instructions end with this one, and some run gets past them
pub record Past (setting : OldStrings) (text : List ℕ) (p : List Instruction) (last : Instruction)
    (known : Knowledge) (s : State) : Type 0 where
  pub outcomes : List Outcome
  pub can : All CanCome outcomes
  pub new : Obeys AnswersNew setting p outcomes s
  pub ended : Ended
  pub runs : run_as setting p outcomes s ≡ ended
  pub comes : Comes text known ended
  pub stops : last.op ≡ op.Stop → IsStopped ended

-- a run of a whole pickle stops
pub stopped : {setting : OldStrings} {text : List ℕ} {p : List Instruction} {last : Instruction}
    {known : Knowledge} {s : State} (a : Past setting text p last known s) → last.op ≡ op.Stop
    → (r : ℕ) × (t : State) × (run_as setting p a.outcomes s ≡ EndedBy (Stopped r t))
    × CoversBy (Answered text) known t
stopped {setting} {text} {p} {known = known} {s = s} a stop =
    by_end a.ended a.runs a.comes (a.stops stop)
  where
    by_end : (x : Ended) → run_as setting p a.outcomes s ≡ x → Comes text known x → IsStopped x
        → (r : ℕ) × (t : State) × (run_as setting p a.outcomes s ≡ EndedBy (Stopped r t))
        × CoversBy (Answered text) known t
    by_end (EndedBy (Stopped r t)) e c h = (r, t, e, c)
    by_end _ e c h = absurd h

module _ (setting : OldStrings) (v : Word) where
  -- the step leads to this end
  ends : (i : Instruction) (k : Knowledge) (s : State) (st : Stepped) (x : Ended)
      → step_as setting i s (new_text v.text s) ≡ st
      → IfWentOn st (Obeys AnswersNew setting [] []) → go_on st (run_as setting [] []) ≡ x
      → Comes v.text k x → (i.op ≡ op.Stop → IsStopped x) → Past setting v.text (i ∷ []) i k s
  ends i k s st x e w g comes stops =
      let m = new_on setting i [] s (new_text v.text s) [] v.utf8 (All-nil CanCome) (omega arith)
      (subst (λ st. IfWentOn st (Obeys AnswersNew setting [] [])) (sym e) w)
      (ap (λ st. go_on st (run_as setting [] [])) e ∙ g) in
      record {
        outcomes = m.0;
        can = m.1;
        new = m.2;
        ended = x;
        runs = m.3;
        comes = comes;
        stops = stops;
      }

  at_last : (i : Instruction) (k : Knowledge) (s : State) (st : Stepped)
      → step_as setting i s (new_text v.text s) ≡ st → StepsPast v.text k st
      → Past setting v.text (i ∷ []) i k s
  at_last i k s (WentOn u) e h = ends i k s (WentOn u) (Reached u) e tt refl h
      (λ f. absurd
      (stop_ends (effect_as setting i) i s u (new_text v.text s) (stop_stops setting i f) e))
  at_last i k s (Stopped r t) e h =
      ends i k s (Stopped r t) (EndedBy (Stopped r t)) e tt refl h (λ f. tt)
  at_last i k s _ e h = absurd h

-- some run gets past these instructions, from any state that is covered
pub past : StepLaws → {setting : OldStrings} {policy : Policy} {limits : Bounds} (v : Word)
    (is : List Instruction) (last : Instruction) {k known : Knowledge}
    {asked : List (Option Asked)} → StopsNowhere is
    → Accepts setting policy limits (is ++ last ∷ []) k known asked → (s : State)
    → CoversBy (Answered v.text) k s → Past setting v.text (is ++ last ∷ []) last known s
past laws {setting} {policy} {limits} v [] last {k = k} on (accepts_first q e accepts_none) s c =
    at_last setting v last q.after s (step_as setting last s (new_text v.text s)) refl
    (laws.goes_on setting policy limits last k q e v.text s c)
past laws {setting} {policy} {limits} v (i ∷ is) last {k = k} on (accepts_first q e h) s c =
    let o = new_text v.text s in
    let u = gone v.text q (step_as setting i s o) (never_stops setting i on.0 s o)
    (laws.goes_on setting policy limits i k q e v.text s c) in
    let m = past laws v is last on.1 h u.0 u.2 in
    let rest = is ++ last ∷ [] in
    let n = new_on setting i rest s o m.outcomes v.utf8 m.can (omega arith)
    (subst (λ st. IfWentOn st (Obeys AnswersNew setting rest m.outcomes)) (sym u.1) m.new)
    (ap (λ st. go_on st (run_as setting rest m.outcomes)) u.1 ∙ m.runs) in
    record {
      outcomes = n.0;
      can = n.1;
      new = n.2;
      ended = m.ended;
      runs = n.3;
      comes = m.comes;
      stops = m.stops;
    }
