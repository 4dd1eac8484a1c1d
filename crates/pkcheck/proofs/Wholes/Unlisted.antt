-- What has no fault is accepted, if every import is permitted.
use Rattle.std.proofs.Common.{◌≡◌, List, [], ◌∷◌, ◌++◌, None, Result, Ok, Err, refl, sym, subst}
use Rattle.std.proofs.Common.{◌∙◌, append-nil, Option, append_assoc}
use Rattle.std.specs.Prelude.{All}
use Rattle.std.proofs.lemmas.List.Elements.{All-head, All-tail}
use Rattle.pkops.specs.Limits.{Bounds}
use Rattle.pkops.specs.Payloads.{payload_limit}
use Rattle.pkops.specs.Spelling.{Instruction}
use Rattle.pkread.specs.Admission.{IsAllowedBy}
use Rattle.pkmachine.specs.Faults.{Arrivals, HasFaultHere, everyone}
use Rattle.pkmachine.specs.Knowledge.{Knowledge, Lacks, OffList, Policy, Progress, Refusal}
use Rattle.pkmachine.specs.Knowledge.{UnknownImport, advance, reason_of}
use Rattle.pkmachine.specs.StepLaws.{StepLaws}
use Rattle.pkcheck.proofs.Wholes.Exclusive.{shown}
use Rattle.pkimport.specs.Import.{Asked}
use Rattle.pkmachine.specs.RowRuns.{Beginning, RunsFrom}
use Rattle.pkcheck.specs.RunFaults.{HasRunFault, IsFaultless}
use Rattle.pkstack.specs.Shape.{NoMark}
use Rattle.pkmachine.specs.declared.old_strings.OldStrings.{OldStrings}
use Rattle.pkcheck.proofs.Wholes.Stops.{StopsLast, nowhere_before}
use Rattle.pkcheck.proofs.Wholes.Origins.{Begins, stands_from}
use Rattle.pkcheck.proofs.Wholes.Walk.{Accepts, accepts_last, accepts_none, along}

-- a fault that doesn't depend on a list is a fault whatever the list
as_run_fault : (limits : Bounds) (policy : Policy) (before : List Instruction) (here : Arrivals)
    (i : Instruction) (r : Refusal) → HasFaultHere None limits here i (reason_of r)
    → HasRunFault policy limits before here i (reason_of r)
as_run_fault limits policy before here i (Lacks NoMark) h = h
as_run_fault limits policy before here i UnknownImport h = absurd h.3
as_run_fault limits policy before here i (OffList m n) h = absurd h.2.1
as_run_fault limits policy before here i _ h = h

allowed_at : (limits : Bounds) (before : List Instruction) (i : Instruction)
    (is : List Instruction) → All (IsAllowedBy (payload_limit limits)) (before ++ i ∷ is)
    → IsAllowedBy (payload_limit limits) i
allowed_at limits [] i is h = All-head (IsAllowedBy (payload_limit limits)) i is h
allowed_at limits (x ∷ before) i is h = allowed_at limits before i is
    (All-tail (IsAllowedBy (payload_limit limits)) x (before ++ i ∷ is) h)

-- the checker accepts the instructions
pub record IsAccepted (setting : OldStrings) (limits : Bounds) (p : List Instruction)
    (first : Knowledge) : Type 0 where
  pub known : Knowledge
  pub asked : List (Option Asked)
  pub accepts : Accepts setting None limits p first known asked

module _ (laws : StepLaws) {setting : OldStrings} (policy : Policy) (limits : Bounds)
    {b : Beginning} {first : Knowledge} (begun : Begins setting None b first)
    (p : List Instruction) (allowed : All (IsAllowedBy (payload_limit limits)) p)
    (last : StopsLast p) (faultless : IsFaultless setting b policy limits p) where
  not_refused : (before : List Instruction) (i : Instruction) (is : List Instruction)
      {known : Knowledge} {asked : List (Option Asked)} → before ++ i ∷ is ≡ p
      → Accepts setting None limits before first known asked → (r : Refusal)
      → advance setting None limits i known ≡ Err r → ⊥
  not_refused before i is {known = known} e a r g =
      let stands = stands_from begun
      (along laws (nowhere_before before i is (subst StopsLast (sym e) last)) a) in
      let named = laws.refused setting b before None limits i known r stands tt
      (allowed_at limits before i is
      (subst (All (IsAllowedBy (payload_limit limits))) (sym e) allowed)).admitted g in
      faultless before i is (sym e) (reason_of r)
      (as_run_fault limits policy before (everyone (RunsFrom setting b before)) i r
      (shown setting b None limits before i (reason_of r) named.fault))

  accepted_on : (is before : List Instruction) (known : Knowledge) (asked : List (Option Asked))
      → before ++ is ≡ p → Accepts setting None limits before first known asked
      → IsAccepted setting limits p first
  accepted_on [] before known asked e a = record {
    known = known;
    asked = asked;
    accepts = subst (λ l. Accepts setting None limits l first known asked)
        (sym (append-nil before) ∙ e) a;
  }
  accepted_on (i ∷ is) before known asked e a =
      by_step (advance setting None limits i known) refl
      (λ q g. accepted_on is (before ++ i ∷ []) q.after (asked ++ q.import ∷ [])
      (append_assoc before (i ∷ []) is ∙ e) (accepts_last a i g))
    where
      by_step : (x : Result Progress Refusal) → advance setting None limits i known ≡ x
          → ((q : Progress) → advance setting None limits i known ≡ Ok q
          → IsAccepted setting limits p first) → IsAccepted setting limits p first
      by_step (Ok q) g on = on q g
      by_step (Err r) g on = absurd (not_refused before i is e a r g)

  pub accepted : IsAccepted setting limits p first
  accepted = accepted_on p [] first [] refl accepts_none
