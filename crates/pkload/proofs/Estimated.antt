-- What a check with a ceiling says.
use Rattle.std.proofs.Common.{◌≡◌, ℕ, Bool, true, false, List, [], length, Ok, Err, Result}
use Rattle.std.proofs.Common.{refl, sym, ap, subst, ◌∙◌, arith}
use Rattle.std.specs.Prelude.{All, MatchResult, option_map}
use Rattle.pkops.specs.Limits.{Bounds}
use Rattle.pkops.specs.Payloads.{payload_limit}
use Rattle.pkops.specs.Spelling.{Instruction}
use Rattle.pkread.specs.Admission.{IsAllowedBy}
use Rattle.pkread.specs.Rows.{Sight}
use Rattle.pkread.specs.Sequence.{spellings}
use Rattle.pkimport.specs.Import.{asked_shown}
use Rattle.pkmachine.specs.Knowledge.{Policy}
use Rattle.pkmachine.specs.RowRuns.{Beginning}
use Rattle.pkmachine.specs.declared.old_strings.OldStrings.{OldStrings}
use Rattle.pkcheck.specs.NewRuns.{FaultlessIsRun}
use Rattle.pkcheck.specs.Reports.{AreReportsBehind, Report}
use Rattle.pkcheck.specs.RowOfPickles.{begins}
use Rattle.pkcheck.specs.ThreeEnds.{AcceptedAndTold, RefusedAndTold}
use Rattle.pkcheck.specs.declared.check_loop.Extent.{Extent}
use Rattle.pkcheck.specs.declared.check_loop.Extent.TheVariants.{OnePickle, ToTheEnd}
use Rattle.pkcheck.specs.declared.check_loop.RefusedPickle.{RefusedPickle}
use Rattle.pkcheck.specs.declared.loading.Loading.{Loading}
use Rattle.pkcheck.specs.declared.row_of_pickles.YesAll.{YesAll}
use Rattle.pkstack.specs.Shape.{and_then}
use Rattle.pkload.proofs.Below.{is_below}
use Rattle.pkload.proofs.Billable.{accepted_bill}
use Rattle.pkload.proofs.Linear.{memory_fits}
use Rattle.pkload.proofs.Loading.{all_good, begins_ready, runs_within}
use Rattle.pkload.proofs.Whole.{bill_bounds_runs}
use Rattle.pkload.specs.Bill.{Bill, all_billed, no_bill}
use Rattle.pkload.specs.Loading.{AcceptedWithin}
use Rattle.pkload.specs.Private.Ceiling.{FitsUnder, IsBelow, all_raised, lowest}
use Rattle.pkload.specs.Tally.{Implies}
use Rattle.pkload.specs.Tolls.{IsWithin, KeepsWithin}
use Rattle.pkload.specs.declared.ceiling.Ceiling.{Ceiling}
use Rattle.pkload.specs.declared.tally.Tally.{Tally}
use Rattle.pkload.specs.declared.tolls.Tolls.{Tolls}

-- what is built below a ceiling that is within the limit is within it
pub builds_below : (counted ceiling limit : Bool) → (ceiling ≡ false → counted ≡ false)
    → Implies ceiling limit → Implies counted limit
builds_below false ceiling limit h g = tt
builds_below true true limit h g = g
builds_below true false limit h g = cc (h refl)

-- what lies below a ceiling that is within the limits is within them
below_within : (tolls : Tolls) (bytes : ℕ) (c : Ceiling) (tally : Tally) → IsBelow c bytes tally
    → FitsUnder tolls bytes c → IsWithin tolls tally
below_within tolls bytes c tally h f = record {
  levels = omega (arith, h.levels, f.levels);
  weight = omega (arith, h.weight, f.weight);
  work = omega (arith, h.work, f.work);
  clash = omega (arith, h.clash, h.work, f.clash);
  builds = builds_below tally.builds c.builds tolls.builds h.builds f.builds;
}

-- what is billed below a ceiling that is within the limits keeps within them
pub bill_within : (setting : OldStrings) (beginning : Beginning) (limits : Bounds) (tolls : Tolls)
    (is : List Instruction) (rs : List Report) (bill : Bill)
    → AreReportsBehind false setting beginning 0 [] is rs
    → All (IsAllowedBy (payload_limit limits)) is → all_billed is no_bill ≡ Ok bill
    → FitsUnder tolls (length (spellings is)) (all_raised rs lowest)
    → KeepsWithin tolls bill.tally bill.memory
bill_within setting beginning limits tolls is rs bill told allowed e f =
    let good = all_good limits is allowed in
    let memory = memory_fits is bill good e f.few in (
      below_within tolls (length (spellings is)) (all_raised rs lowest) bill.tally
          (is_below setting beginning is rs bill told (omega (arith, f.few)) f.counted e) f,
      omega (arith, memory, f.memory),
    )

abbrev yes_in : YesAll → Result YesAll RefusedPickle → YesAll
yes_in other (Ok accepted) = accepted
yes_in other (Err refused) = other

module _ (loading : Loading) (policy : Policy) (limits : Bounds) (tolls : Tolls) (old new : Sight)
    (run : FaultlessIsRun) where
  accepted_below : (accepted : YesAll) (rs : List Report) (c : Ceiling)
      → AcceptedAndTold false loading policy limits old new OnePickle accepted.taken
      accepted.pickles accepted.imports rs
      → c ≡ all_raised rs lowest → FitsUnder tolls accepted.taken c
      → AcceptedWithin loading policy limits tolls old new OnePickle accepted
  accepted_below accepted rs c h e f =
      let is = h.0.instructions in
      let b = accepted_bill run loading policy limits old new accepted.taken accepted.imports h.0 in
      let g : FitsUnder tolls (length (spellings is)) (all_raised rs lowest)
      = subst (λ n. FitsUnder tolls n (all_raised rs lowest)) h.0.count
      (subst (FitsUnder tolls accepted.taken) e f) in
      let within = bill_within loading.old_strings (begins loading.memo []) limits tolls is rs b.0
      h.1 h.0.sequence.each b.1 g in
      let all = ap (λ x. and_then x (all_billed is)) (begins_ready tolls loading).bill ∙ b.1 in (
        h.0,
        record {
          bill = b.0;
          billed = all;
          within = within;
          runs = runs_within tolls b.0 loading.old_strings (begins loading.memo []) is
              (bill_bounds_runs loading.old_strings (begins loading.memo []) is b.0 all) within.0;
        },
        h.2,
      )

  -- what is accepted below a ceiling that is within the limits is accepted within them
  pub answer_below : (extent : Extent) (answer : Result YesAll RefusedPickle) (accepted : YesAll)
      (rs : List Report) (c : Ceiling) → extent ≡ OnePickle → answer ≡ Ok accepted
      → MatchResult answer
      (λ yes. AcceptedAndTold false loading policy limits old new extent yes.taken yes.pickles
      yes.imports rs)
      (λ refused. RefusedAndTold false loading policy limits old new extent refused.pickle
      refused.no.at refused.no.reason (option_map asked_shown refused.no.pair) refused.imports rs)
      → c ≡ all_raised rs lowest → FitsUnder tolls accepted.taken c
      → AcceptedWithin loading policy limits tolls old new extent accepted
  answer_below OnePickle (Ok first) accepted rs c one same h e f =
      let is : first ≡ accepted = ap (yes_in first) same in
      subst (AcceptedWithin loading policy limits tolls old new OnePickle) is
      (accepted_below first rs c h e (subst (λ a. FitsUnder tolls a.taken c) (sym is) f))
  answer_below OnePickle (Err refused) accepted rs c one same h e f = cc same
  answer_below ToTheEnd answer accepted rs c one same h e f = cc one
