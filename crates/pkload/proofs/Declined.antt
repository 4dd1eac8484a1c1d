-- What a check with a ceiling says of a refused pickle.
use Rattle.std.proofs.Common.{◌≡◌, ℕ, false, List, [], ◌∷◌, ◌++◌, length, Result, Ok, Err, sym}
use Rattle.std.proofs.Common.{refl}
use Rattle.std.proofs.Common.{ap, subst, ◌∙◌, arith}
use Rattle.std.proofs.lemmas.Nat.{mul-le}
use Rattle.std.specs.Prelude.{MatchResult, option_map}
use Rattle.pkops.specs.Limits.{Bounds}
use Rattle.pkops.specs.Spelling.{spelling}
use Rattle.pkread.specs.Rows.{Sight}
use Rattle.pkread.specs.Sequence.{spellings}
use Rattle.pkimport.specs.Import.{asked_shown}
use Rattle.pkmachine.specs.Knowledge.{Policy}
use Rattle.pkcheck.specs.Heard.{refused_instruction}
use Rattle.pkcheck.specs.NewRuns.{FaultlessIsRun}
use Rattle.pkcheck.specs.Reports.{Report, Skipped, Told, Whole}
use Rattle.pkcheck.specs.RowOfPickles.{begins}
use Rattle.pkcheck.specs.ThreeEnds.{AcceptedAndTold, RefusedAndTold}
use Rattle.pkcheck.specs.declared.check_loop.Extent.{Extent}
use Rattle.pkcheck.specs.declared.check_loop.Extent.TheVariants.{OnePickle, ToTheEnd}
use Rattle.pkcheck.specs.declared.check_loop.RefusedPickle.{RefusedPickle}
use Rattle.pkcheck.specs.declared.loading.Loading.{Loading}
use Rattle.pkcheck.specs.declared.row_of_pickles.YesAll.{YesAll}
use Rattle.pkstack.specs.Shape.{and_then}
use Rattle.pkload.proofs.Billable.{unstopped_bill}
use Rattle.pkload.proofs.Estimated.{answer_below, bill_within, builds_below}
use Rattle.pkload.proofs.Loading.{begins_ready}
use Rattle.pkload.proofs.Refusals.{parted}
use Rattle.pkload.proofs.Under.{IsSound, Rises, raised_rises, stays}
use Rattle.pkload.specs.Bill.{all_billed}
use Rattle.pkload.specs.Loading.{IsRefused, IsRightWithin}
use Rattle.pkload.specs.Private.Ceiling.{FitsUnder, all_raised, bytes_of, heaviest, lowest}
use Rattle.pkload.specs.Private.Ceiling.{told_raised}
use Rattle.pkload.specs.declared.ceiling.Ceiling.{Ceiling}
use Rattle.pkload.specs.declared.tolls.Tolls.{Tolls}

-- ---- ceilings rise behind reports

-- a ceiling that is at least as high as a sound one is sound
sound_higher : (c d : Ceiling) → IsSound c → Rises c d → IsSound d
sound_higher c d h r = record { shallow = r.shallow }

-- what rises twice rises
rises_twice : (c d e : Ceiling) → Rises c d → Rises d e → Rises c e
rises_twice c d e h g = record {
  weight = omega (arith, h.weight, g.weight);
  depth = omega (arith, h.depth, g.depth);
  again = omega (arith, h.again, g.again);
  builds = λ k. h.builds (g.builds k);
  shallow = g.shallow;
}

-- what is told of an instruction lowers no ceiling
told_rises : (told : Told) (at : ℕ) (c : Ceiling) → IsSound c → Rises c (told_raised told at c)
told_rises (Whole i) at c h = raised_rises i.op (length (spelling i)) at c h
told_rises (Skipped o count) at c h = raised_rises o count at c h

-- reports lower no ceiling
all_rise : (rs : List Report) (c : Ceiling) → IsSound c → Rises c (all_raised rs c)
all_rise [] c h = stays c h
all_rise (r ∷ rs) c h =
    let d = told_raised r.told r.at c in
    let one = told_rises r.told r.at c h in
    rises_twice c d (all_raised rs d) one (all_rise rs d (sound_higher c d h one))

-- more reports lower no ceiling
more_rise : (rs qs : List Report) (c : Ceiling) → IsSound c
    → Rises (all_raised rs c) (all_raised (rs ++ qs) c)
more_rise [] qs c h = all_rise qs c h
more_rise (r ∷ rs) qs c h =
    more_rise rs qs (told_raised r.told r.at c)
    (sound_higher c (told_raised r.told r.at c) h (told_rises r.told r.at c h))

-- a ceiling below one that is within the limits is within them
lower_fits : (tolls : Tolls) (bytes : ℕ) (c d : Ceiling) → Rises c d → FitsUnder tolls bytes d
    → FitsUnder tolls bytes c
lower_fits tolls bytes c d r f =
    let all = mul-le c.again (heaviest c) d.again (heaviest d) r.again r.weight in
    record {
      levels = omega (arith, r.depth, f.levels);
      weight = omega (arith, r.weight, f.weight);
      counted = omega (arith, r.again, f.counted);
      work = omega (arith, all, f.work);
      clash = omega (arith, all, f.clash);
      builds = builds_below c.builds d.builds tolls.builds r.builds f.builds;
      memory = f.memory;
      few = f.few;
    }

lowest_sound : IsSound lowest
lowest_sound = record { shallow = omega arith }

-- ---- refusals

abbrev no_in : RefusedPickle → Result YesAll RefusedPickle → RefusedPickle
no_in other (Ok accepted) = other
no_in other (Err refused) = refused

module _ (loading : Loading) (policy : Policy) (limits : Bounds) (tolls : Tolls) (old new : Sight)
    (run : FaultlessIsRun) where
  refused_below : (refused : RefusedPickle) (rs : List Report) (c : Ceiling)
      → RefusedAndTold false loading policy limits old new OnePickle refused.pickle refused.no.at
      refused.no.reason (option_map asked_shown refused.no.pair) refused.imports rs
      → c ≡ all_raised rs lowest → FitsUnder tolls refused.no.at c
      → IsRefused loading policy limits tolls old new OnePickle refused
  refused_below refused rs c h e f =
      let r = h.0.refused in
      let is = r.instructions in
      let b = unstopped_bill run loading policy limits old is r.goes_on r.admitted r.faultless in
      let p = parted loading.old_strings (begins loading.memo []) 0 [] is
      (refused_instruction r.why) rs h.1 in
      let place : refused.no.at ≡ length (spellings is) = omega (arith, r.place) in
      let whole : FitsUnder tolls (length (spellings is))
      (all_raised (p.first ++ p.others) lowest)
      = subst (λ n. FitsUnder tolls n (all_raised (p.first ++ p.others) lowest)) place
      (subst (FitsUnder tolls refused.no.at) (e ∙ ap (λ l. all_raised l lowest) p.all) f) in
      let first = lower_fits tolls (length (spellings is)) (all_raised p.first lowest)
      (all_raised (p.first ++ p.others) lowest) (more_rise p.first p.others lowest lowest_sound)
      whole in (
        h.0,
        record {
          bill = b.0;
          billed = ap (λ x. and_then x (all_billed is)) (begins_ready tolls loading).bill ∙ b.1;
          within = bill_within loading.old_strings (begins loading.memo []) limits tolls is p.first
              b.0 p.of_first r.admitted b.1 first;
        },
        h.2,
      )

  -- what is refused below a ceiling that is within the limits keeps within them before
  pub refusal_below : (extent : Extent) (answer : Result YesAll RefusedPickle)
      (refused : RefusedPickle) (rs : List Report) (c : Ceiling) → extent ≡ OnePickle
      → answer ≡ Err refused
      → MatchResult answer
      (λ yes. AcceptedAndTold false loading policy limits old new extent yes.taken yes.pickles
      yes.imports rs)
      (λ refused. RefusedAndTold false loading policy limits old new extent refused.pickle
      refused.no.at refused.no.reason (option_map asked_shown refused.no.pair) refused.imports rs)
      → c ≡ all_raised rs lowest → FitsUnder tolls refused.no.at c
      → IsRefused loading policy limits tolls old new extent refused
  refusal_below OnePickle (Err first) refused rs c one same h e f =
      let is : first ≡ refused = ap (no_in first) same in
      subst (IsRefused loading policy limits tolls old new OnePickle) is
      (refused_below first rs c h e (subst (λ r. FitsUnder tolls r.no.at c) (sym is) f))
  refusal_below OnePickle (Ok accepted) refused rs c one same h e f = cc same
  refusal_below ToTheEnd answer refused rs c one same h e f = cc one

  -- an answer below a ceiling that is within the limits is right within them
  pub answer_within : (extent : Extent) (answer : Result YesAll RefusedPickle)
      (rs : List Report) (c : Ceiling) → extent ≡ OnePickle
      → MatchResult answer
      (λ accepted. AcceptedAndTold false loading policy limits old new extent accepted.taken
      accepted.pickles accepted.imports rs)
      (λ refused. RefusedAndTold false loading policy limits old new extent refused.pickle
      refused.no.at refused.no.reason (option_map asked_shown refused.no.pair) refused.imports rs)
      → c ≡ all_raised rs lowest → FitsUnder tolls (bytes_of answer) c
      → IsRightWithin loading policy limits tolls old new extent answer
  answer_within extent (Ok accepted) rs c one h e f =
      answer_below loading policy limits tolls old new run extent (Ok accepted) accepted rs c one
      refl h e f
  answer_within extent (Err refused) rs c one h e f =
      refusal_below extent (Err refused) refused rs c one refl h e f
