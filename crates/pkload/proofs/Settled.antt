-- What the audience that keeps the bill says where a check ends.
use Rattle.std.proofs.Common.{◌≡◌, ◌≤◌, ◌<◌, ℕ, false, List, [], Option, None, Some, Result, Ok}
use Rattle.std.proofs.Common.{Err, IfOk, inl, inr, refl, sym, ap, subst}
use Rattle.std.specs.Option.{MatchOption}
use Rattle.std.specs.Prelude.{◌≢◌, ⊤, IfErr, MatchResult, option_map}
use Rattle.pkops.specs.Limits.{Bounds}
use Rattle.pkops.specs.declared.Reason.{Reason}
use Rattle.pkops.specs.declared.Reason.TheVariants as reason
use Rattle.pkread.specs.Rows.{Sight}
use Rattle.pkread.specs.Sequence.{CountsAt}
use Rattle.pkimport.specs.Import.{asked_shown}
use Rattle.pkmachine.specs.Knowledge.{Policy}
use Rattle.pkcheck.specs.NewRuns.{FaultlessIsRun}
use Rattle.pkcheck.specs.Reports.{Report}
use Rattle.pkmachine.specs.RowRuns.{sequences_of}
use Rattle.pkcheck.specs.ThreeEnds.{AcceptedAndTold, CountsTold, RefusedAndTold, StopsTold}
use Rattle.pkcheck.specs.declared.check_loop.Extent.{Extent}
use Rattle.pkcheck.specs.declared.check_loop.Extent.TheVariants.{OnePickle, ToTheEnd}
use Rattle.pkcheck.specs.declared.check_loop.RefusedPickle.{RefusedPickle}
use Rattle.pkcheck.specs.declared.loading.Loading.{Loading}
use Rattle.pkcheck.specs.declared.row_of_pickles.YesAll.{YesAll}
use Rattle.pkload.proofs.Costs.{takes_none}
use Rattle.pkload.proofs.Ends.{EndsOver, accepted_over, refused_over, stopped_over}
use Rattle.pkload.proofs.Loading.{at_first, begins_ready, begins_within, last_is, pickle_within}
use Rattle.pkload.proofs.Loading.{rows_within}
use Rattle.pkload.proofs.Refusals.{NoneIn, refused_within}
use Rattle.pkload.specs.Costly.{CostsTooMuch, FailsOnce, StopsAt}
use Rattle.pkload.specs.Loading.{AcceptedWithBill, AcceptedWithin, IsRefused, IsRightLoading}
use Rattle.pkload.specs.Loading.{CountsLoaded, bill_of}
use Rattle.pkload.specs.Private.Meter.{Meter, Meters, StopsFor}
use Rattle.pkload.specs.Private.Settled.{IsBilledAs, IsCostlyBy, NoneBefore}
use Rattle.pkload.specs.declared.checking.Costly.{Costly}
use Rattle.pkload.specs.declared.checking.YesWithBill.{YesWithBill}
use Rattle.pkload.specs.declared.tolls.Excess.{Excess}
use Rattle.pkload.specs.declared.tolls.Excess.TheVariants.{OutOfMemory}
use Rattle.pkload.specs.declared.tolls.Tolls.{Tolls}

module _ (loading : Loading) (policy : Policy) (limits : Bounds) (tolls : Tolls) (old new : Sight)
    (run : FaultlessIsRun) where
  -- the audience at the first instruction
  abbrev begun : Meter
  begun = record {
    metering = at_first;
    tolls = tolls;
    memo = loading.memo;
    excess = None;
    at = 0;
  }

  none_before : (y : Meter) (rs : List Report) (place : ℕ) (excess : Option Excess)
      → Meters begun y rs → y.excess ≡ excess → MatchOption excess ⊤ (λ _. place ≤ y.at)
      → NoneIn loading tolls place y.at y.metering rs excess
  none_before y rs place None told e h = (told.is e, told.fits e)
  none_before y rs place (Some excess) told e h = (h, told.over excess refl e)

  with_last : (y : Meter) (extent : Extent) (accepted : YesAll) (billed : YesWithBill)
      → IsBilledAs y (Ok accepted) (Ok billed)
      → (right : AcceptedWithin loading policy limits tolls old new extent accepted)
      → bill_of loading policy limits tolls old new extent accepted right ≡ Some y.metering.bill
      → AcceptedWithBill loading policy limits tolls old new extent billed
  with_last y extent accepted billed same right last =
      subst (λ a. (r : AcceptedWithin loading policy limits tolls old new extent a)
      → bill_of loading policy limits tolls old new extent a r ≡ Some y.metering.bill
      → AcceptedWithBill loading policy limits tolls old new extent billed) same.0
      (λ r e. record {
        right = r;
        bill = y.metering.bill;
        last = e;
        tally = same.1;
        memory = same.2;
      }) right last

  -- the limit that is named is exceeded, unless the bill couldn't be kept
  abbrev pub IsRightCostly : Extent → Costly → Type 0
  IsRightCostly extent costly = costly.excess ≢ OutOfMemory
      → CostsTooMuch loading policy limits tolls old extent costly.pickle costly.at costly.excess

  abbrev IsToldTo : Extent → List Report → Result YesAll RefusedPickle → Type 0
  IsToldTo extent rs answer = MatchResult answer
      (λ yes. AcceptedAndTold false loading policy limits old new extent yes.taken yes.pickles
      yes.imports rs)
      (λ refused. RefusedAndTold false loading policy limits old new extent refused.pickle
      refused.no.at refused.no.reason (option_map asked_shown refused.no.pair) refused.imports rs)

  right_refusal : (y : Meter) (rs : List Report) (extent : Extent) (refused : RefusedPickle)
      → IsToldTo extent rs (Err refused)
      → NoneIn loading tolls refused.no.at y.at y.metering rs y.excess
      → IsRefused loading policy limits tolls old new extent refused
  right_refusal y rs ToTheEnd refused h none = let k = refused_within loading tolls policy limits
      h.right.before old h.right.here new refused.no.at refused.no.reason
      (option_map asked_shown refused.no.pair) h.right.refused h.earlier h.last y.at y.metering
      y.excess h.right.each h.of_pickles h.behind
      (subst (λ l. NoneIn loading tolls refused.no.at y.at y.metering l y.excess) h.all none) in
      (h.right, k.0, k.1)
  right_refusal y rs OnePickle refused h none = (
    h.0,
    (refused_within loading tolls policy limits [] old old new refused.no.at refused.no.reason
        (option_map asked_shown refused.no.pair) h.0.refused [] rs y.at y.metering y.excess
        (takes_none old) refl h.1 none).1,
    h.2,
  )

  right_loading : (y : Meter) (rs : List Report) (extent : Extent)
      (answer : Result YesAll RefusedPickle) (billed : Result YesWithBill RefusedPickle)
      → Meters begun y rs → IsToldTo extent rs answer → IsBilledAs y answer billed
      → IfOk billed (λ _. y.excess ≡ None)
      → IfErr billed (λ refusal. NoneBefore refusal.no.at y)
      → IsRightLoading loading policy limits tolls old new extent billed
  right_loading y rs ToTheEnd (Ok accepted) (Ok billed) told h same e q =
      let row = rows_within tolls loading policy limits h.0.row [] old new rs at_first y.metering
      h.0.each h.1 (begins_ready tolls loading) (begins_within tolls loading)
      (told.is e) (told.fits e) in
      with_last y ToTheEnd accepted billed same (h.0, row.0.0)
      (last_is tolls loading h.0.row [] y.metering
      (λ none. h.0.is_row.some (ap sequences_of none)) row.0)
  right_loading y rs OnePickle (Ok accepted) (Ok billed) told h same e q =
      let one = pickle_within tolls loading limits 0 [] h.0.instructions rs at_first y.metering
      h.0.sequence h.1 (begins_ready tolls loading) (begins_within tolls loading)
      (told.is e) (told.fits e) in
      with_last y OnePickle accepted billed same (h.0, one.costs, h.2) (ap Some one.same)
  right_loading y rs extent (Err refused) (Err refusal) told h same e q =
      subst (λ r. IsRefused loading policy limits tolls old new extent r) (sym same)
      (right_refusal y rs extent refused h (none_before y rs refused.no.at y.excess told refl
      (subst (λ r. NoneBefore r.no.at y) same q)))
  right_loading y rs extent _ _ told h same e q = absurd same

  pub settled_loading : {E : Type 0} (y : Meter) (rs : List Report) (extent : Extent)
      (settled : Result (Result YesWithBill RefusedPickle) E)
      (answer : Result YesAll RefusedPickle) → Meters begun y rs → IsToldTo extent rs answer
      → IfOk settled (IsBilledAs y answer)
      → IfOk settled (λ billed. IfOk billed (λ _. y.excess ≡ None))
      → IfOk settled (λ billed. IfErr billed (λ refusal. NoneBefore refusal.no.at y))
      → IfOk settled (IsRightLoading loading policy limits tolls old new extent)
  settled_loading y rs extent (Ok billed) answer told h same e q =
      right_loading y rs extent answer billed told h same e q
  settled_loading y rs extent (Err costly) answer told h same e q = tt

  -- the check ended because of the instruction
  abbrev pub StopsThere : Extent → Costly → Type 0
  StopsThere extent costly =
      StopsAt loading policy limits tolls old new extent costly.at costly.excess

  by_answer : (y : Meter) (rs : List Report) (extent : Extent)
      (answer : Result YesAll RefusedPickle) (costly : Costly) → Meters begun y rs
      → IsToldTo extent rs answer → IsCostlyBy y answer costly
      → EndsOver loading policy limits tolls costly.excess y.at y.metering run old new extent
  by_answer y rs extent (Ok accepted) costly told h k =
      accepted_over loading policy limits tolls costly.excess y.at y.metering run old new extent
      accepted.taken accepted.pickles accepted.imports rs h
      (told.over costly.excess refl k.excess)
  by_answer y rs extent (Err refused) costly told h k =
      refused_over loading policy limits tolls costly.excess y.at y.metering run old new extent
      refused.pickle refused.no.at refused.no.reason (option_map asked_shown refused.no.pair)
      refused.imports rs h (subst (λ at. at < refused.no.at) k.at k.later)
      (told.over costly.excess refl k.excess)

  pub settled_over : {A : Type 0} (y : Meter) (rs : List Report) (extent : Extent)
      (settled : Result A Costly) (answer : Result YesAll RefusedPickle) → Meters begun y rs
      → IsToldTo extent rs answer → IfErr settled (IsCostlyBy y answer)
      → IfErr settled (IsRightCostly extent)
  settled_over y rs extent (Ok a) answer told h k = tt
  settled_over y rs extent (Err costly) answer told h k = λ ne.
      subst (λ at. CostsTooMuch loading policy limits tolls old extent costly.pickle at
      costly.excess) (sym k.at)
      (subst (λ pickle. CostsTooMuch loading policy limits tolls old extent pickle y.at
      costly.excess) (sym k.pickle) ((by_answer y rs extent answer costly told h k).costly ne))

  pub settled_stops : {A : Type 0} (y : Meter) (rs : List Report) (extent : Extent)
      (settled : Result A Costly) (answer : Result YesAll RefusedPickle) → Meters begun y rs
      → IsToldTo extent rs answer → IfErr settled (IsCostlyBy y answer)
      → IfErr settled (StopsThere extent)
  settled_stops y rs extent (Ok a) answer told h k = tt
  settled_stops y rs extent (Err costly) answer told h k =
      subst (λ at. StopsAt loading policy limits tolls old new extent at costly.excess) (sym k.at)
      (by_answer y rs extent answer costly told h k).stops

  -- the audience stopped the check because of the instruction that it was told of last
  stopped_there : (z : Meter) (extent : Extent) (excess : Excess)
      → (h : StopsTold false loading policy limits old new Meters
      (λ before after told error. StopsFor before after error) begun z extent excess)
      → EndsOver loading policy limits tolls excess h.2.at h.2.metering run old new extent
  stopped_there z extent excess h =
      stopped_over loading policy limits tolls excess h.2.at h.2.metering run old new extent h.0 h.1
      h.3 (h.4.over excess refl h.5.named)

  pub stopped_right : (z : Meter) (extent : Extent) (excess : Excess) (costly : Costly)
      → StopsTold false loading policy limits old new Meters
      (λ before after told error. StopsFor before after error) begun z extent excess
      → costly ≡ record { pickle = z.metering.pickle; at = z.at; excess = excess }
      → IsRightCostly extent costly
  stopped_right z extent excess costly h same = subst (IsRightCostly extent) (sym same) (λ ne.
      subst (λ m. CostsTooMuch loading policy limits tolls old extent m.metering.pickle m.at
      excess) (sym h.5.same) ((stopped_there z extent excess h).costly ne))

  pub stopped_stops : (z : Meter) (extent : Extent) (excess : Excess) (costly : Costly)
      → StopsTold false loading policy limits old new Meters
      (λ before after told error. StopsFor before after error) begun z extent excess
      → costly ≡ record { pickle = z.metering.pickle; at = z.at; excess = excess }
      → StopsThere extent costly
  stopped_stops z extent excess costly h same = subst (StopsThere extent) (sym same)
      (subst (λ m. StopsAt loading policy limits tolls old new extent m.at excess) (sym h.5.same)
      (stopped_there z extent excess h).stops)

-- ---- the count of failed reads

fails_once : (reason : Reason) (was now : ℕ) → CountsAt reason was now → FailsOnce was now
fails_once reason.Source was now h = inr h
fails_once _ was now h = inl h

counts_once : (was now : ℕ) (answer : Result YesAll RefusedPickle) → CountsTold was now answer
    → FailsOnce was now
counts_once was now (Ok accepted) h = inl h
counts_once was now (Err refused) h = fails_once refused.no.reason was now h

counts_billed : (y : Meter) (was now : ℕ) (answer : Result YesAll RefusedPickle)
    (billed : Result YesWithBill RefusedPickle) → IsBilledAs y answer billed
    → CountsTold was now answer → CountsLoaded was now billed
counts_billed y was now (Ok accepted) (Ok billed) same h = h
counts_billed y was now (Err refused) (Err refusal) same h =
    subst (λ r. CountsAt r.no.reason was now) (sym same) h
counts_billed y was now _ _ same h = absurd same

pub settled_count : (y : Meter) (was now : ℕ)
    (settled : Result (Result YesWithBill RefusedPickle) Costly)
    (answer : Result YesAll RefusedPickle) → IfOk settled (IsBilledAs y answer)
    → CountsTold was now answer
    → MatchResult settled (CountsLoaded was now) (λ costly. FailsOnce was now)
settled_count y was now (Ok billed) answer same h = counts_billed y was now answer billed same h
settled_count y was now (Err costly) answer same h = counts_once was now answer h
