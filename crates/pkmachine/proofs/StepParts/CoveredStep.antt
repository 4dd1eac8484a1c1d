-- The contract of a step follows from its parts, for an accepted and for a refused instruction.
use Rattle.std.proofs.Common.{◌≡◌, ◌⊎◌, inl, inr, true, ◌++◌, ◌∷◌, [], List, Option, Some, None, Ok}
use Rattle.std.proofs.Common.{Err, sym, ap, ◌∙◌, length, arith, length-append}
use Rattle.std.proofs.lemmas.List.{append_cancel_left}
use Rattle.pkops.specs.Admitted.{is_admitted}
use Rattle.pkops.specs.Spelling.{Instruction}
use Rattle.pkops.specs.declared.Reason.{Reason}
use Rattle.pkops.specs.declared.Reason.TheVariants as reason
use Rattle.pkmachine.specs.declared.stepping.Moved.{Moved}
use Rattle.pkmachine.specs.Effects.{effect_as}
use Rattle.pkstack.specs.Shape.{NoMemo}
use Rattle.pkmachine.specs.Knowledge.{Policy, Refusal, Lacks, advance, reason_of}
use Rattle.pkimport.specs.Import.{Asked, AskedUnknown, asks_more}
use Rattle.pkmachine.specs.Faults.{Arrivals}
use Rattle.pkmachine.specs.Private.StepErrors.{IsRefusedFor, IsWantOfMemory, MayWantMemory}
use Rattle.pkmachine.specs.View.{View, off_pair}
use Rattle.pkmachine.specs.Step.{CoveredBy, FailsStep, GoesOn, IsNoFalseAlarm, IsStep}
use Rattle.pkmachine.specs.Step.{MayLackMemory, MeansInEachRun, RefusesForGood, UnknownIsNeeded}
use Rattle.pkmachine.proofs.Coverage.LawsOfSteps.{step_laws}
use Rattle.pkmachine.proofs.Coverage.PermittedImports.{no_extension, permitted_ok}
use Rattle.pkmachine.specs.Witnesses.{Stands, Word}
use Rattle.pkmachine.proofs.Coverage.ShownFaults.{IsLonger}
use Rattle.pkmachine.proofs.StepParts.Settings.{wants_no_memory, wants_no_registry}
use Rattle.pkmachine.proofs.Coverage.FaultsReached.{stands_for_covered, unknown_exactly}
use Rattle.pkmachine.proofs.Coverage.FirstFault.{no_fault, first_fault}

-- a refusal by the definitions never has the reason OutOfMemory
no_memory : (f : Refusal) → reason_of f ≡ reason.OutOfMemory → ⊥
no_memory (Lacks (NoMemo n)) e = cc
no_memory _ e = cc

one_more : (a : Option Asked) (as' : List Asked) (b : Asked) → asks_more a as' ≡ as' ++ b ∷ []
    → a ≡ Some b
one_more None as' b e = let n = ap length e in let m = length-append as' (b ∷ []) in
    absurd (omega (arith, n, m))
one_more (Some a) as' b e = let same = append_cancel_left as' (a ∷ []) (b ∷ []) e in
    ap (λ l. elim l as (λ _. Option Asked) [ [] ↦ None | x ∷ xs ↦ Some x ]) same

module _ (p : Policy) (i : Instruction) (before after : View) where
  -- the states that the knowledge before the step covers
  abbrev here : Arrivals
  here = CoveredBy before.old_strings before.knowledge

  stands : Stands before.knowledge here
  stands = stands_for_covered before.old_strings before.knowledge

  module _ (v : Moved) (g : GoesOn p i before after v) where
    covered_by : MeansInEachRun p i before after
    covered_by s o c =
        let (q, is, becomes, e) = g in (
          q,
          sym (ap (λ (m : View). m.knowledge) becomes),
          ap (λ (m : View). m.imports) becomes,
          permitted_ok before.old_strings p before.limits i before.knowledge q is,
          step_laws.sound before.old_strings p before.limits i before.knowledge q is s o c,
        )

    unknown_by : UnknownIsNeeded p i before after
    unknown_by e =
        let (q, is, becomes, f) = g in
        unknown_exactly p before.limits i before.knowledge here stands q is
        (one_more q.import before.imports AskedUnknown
        (sym (ap (λ (m : View). m.imports) becomes) ∙ e))

    -- a step that is accepted
    pub goes_on : before.refused ≡ None → IsStep p i before after (Ok v)
    goes_on fresh = record {
      again = rw fresh tt;
      goes_on = g;
      covered = covered_by;
      permitted = (
        g.0.import,
        ap (λ (m : View). m.imports) g.2,
        permitted_ok before.old_strings p before.limits i before.knowledge g.0 g.1,
      );
      no_fault = no_fault p before.limits i before.knowledge here stands g.0 g.1;
      unknown = unknown_by;
      fails = λ _. tt;
      alarm = λ _. tt;
      memory = λ _. tt;
      kept = tt;
    }

  module _ (r : Reason) where
    -- an instruction with an error is refused for its reason
    pub errs : (pair : Option Asked) → after ≡ record before { refused = Some r; off = pair }
        → IsRefusedFor (advance before.old_strings p before.limits i before.knowledge) r pair
        ⊎ (MayWantMemory (effect_as before.old_strings i) × IsWantOfMemory r pair)
        → FailsStep p i before after r
    errs pair becomes (inl (f, is, e, g)) = inl
        (f, is, e, becomes ∙ (λ j. record before { refused = Some r; off = g j }))
    errs pair becomes (inr (wants, (e, g))) = inr (
      (λ none. wants_no_memory before.old_strings i none wants),
      e,
      becomes ∙ (λ j. record before { refused = Some r; off = g j }),
    )

    memory_by : FailsStep p i before after r → MayLackMemory p i before after r
    memory_by (inl (f, is, e, becomes)) none lacks = no_memory f (sym e ∙ lacks)
    memory_by (inr (wants, e, becomes)) none lacks = wants none

    refuses : (pair : Option Asked) → after ≡ record before { refused = Some r; off = pair }
        → RefusesForGood before after r
    refuses pair becomes = record {
      imports = ap (λ (m : View). m.imports) becomes;
      knowledge = ap (λ (m : View). m.knowledge) becomes;
      refused = ap (λ (m : View). m.refused) becomes;
    }

    kept_by : FailsStep p i before after r → RefusesForGood before after r
    kept_by (inl (f, is, e, becomes)) = refuses (off_pair f) becomes
    kept_by (inr (wants, e, becomes)) = refuses None becomes

    module _ (v : Word) (long : IsLonger p v.text) (admitted : is_admitted i ≡ true) where
      alarm_by : FailsStep p i before after r → IsNoFalseAlarm p i before after r
      alarm_by (inr (wants, e, becomes)) = inr e
      alarm_by (inl (f, is, e, becomes)) =
          let off = ap (λ (m : View). m.off) becomes in
          let wants = no_extension before.old_strings p before.limits i before.knowledge f
          (wants_no_registry before.old_strings i admitted) is in
          inl
          (rw (e, off)
          (first_fault p before.limits i before.knowledge here stands v long f is wants))

      -- a step that is refused
      pub fails : before.refused ≡ None → FailsStep p i before after r
          → IsStep p i before after (Err r)
      fails fresh h = record {
        again = rw fresh tt;
        goes_on = tt;
        covered = tt;
        permitted = tt;
        no_fault = tt;
        unknown = tt;
        fails = λ _. h;
        alarm = λ _. alarm_by h;
        memory = λ _. memory_by h;
        kept = kept_by h;
      }
