-- Whatever a run answers, it costs at least what the bill says.
use Rattle.std.proofs.Common.{◌≡◌, ◌<◌, ℕ, zero, suc, Bool, true, false, ◌&&◌, ◌||◌, List, []}
use Rattle.std.proofs.Common.{◌∷◌, ◌++◌, length, map, Some, refl, sym, subst, arith}
use Rattle.std.specs.Prelude.{⊤, slice_get, unwrap_or}
use Rattle.pkops.specs.Spelling.{Instruction}
use Rattle.pkops.specs.declared.Op.{Op}
use Rattle.pkmachine.specs.Covers.{Pointwise}
use Rattle.pkmachine.specs.Runs.{Outcome, State}
use Rattle.pkload.proofs.Accounts.{at_most_itself, kept_at, new_at}
use Rattle.pkload.proofs.Lighter.{AreLighter, IsLighter, made_below, operation_below}
use Rattle.pkload.proofs.Readings.{IsAgain, Reading}
use Rattle.pkload.specs.Heft.{Heft, argument_size, heft_of}
use Rattle.pkload.specs.Tally.{Implies, IsAtMost, no_tally, with_operation}
use Rattle.pkload.specs.Weighed.{answered_again, heavier, heft_at, no_heft}
use Rattle.pkload.specs.declared.tally.Tally.{Tally}

-- the object with this number costs at least this
pub record CostsAtLeast (hefts : List Heft) (heft : Heft) (number : ℕ) : Type 0 where
  pub now : Heft
  pub is : slice_get hefts number ≡ Some now
  pub lighter : IsLighter heft now

lighter_all : (hefts hs : List Heft) (ns : List ℕ) → Pointwise (CostsAtLeast hefts) hs ns
    → AreLighter hs (map (heft_at hefts) ns)
lighter_all hefts [] [] h = tt
lighter_all hefts (x ∷ hs) (n ∷ ns) h = (
  subst (λ o. IsLighter x (unwrap_or o no_heft)) (sym h.0.is) h.0.lighter,
  lighter_all hefts hs ns h.1,
)
lighter_all hefts _ _ h = absurd h

pub kept_least : (hefts : List Heft) (another heft : Heft) (n : ℕ) → CostsAtLeast hefts heft n
    → CostsAtLeast (hefts ++ another ∷ []) heft n
kept_least hefts another heft n h =
    record { now = h.now; is = kept_at hefts another h.now n h.is; lighter = h.lighter }

pub made_least : (hefts : List Heft) (i : Instruction) (hs : List Heft) (ns : List ℕ)
    → Pointwise (CostsAtLeast hefts) hs ns
    → CostsAtLeast (hefts ++ heft_of i (map (heft_at hefts) ns) ∷ []) (heft_of i hs)
    (length hefts)
made_least hefts i hs ns h = record {
  now = heft_of i (map (heft_at hefts) ns);
  is = new_at hefts (heft_of i (map (heft_at hefts) ns));
  lighter = made_below i.op (argument_size i.arg) hs (map (heft_at hefts) ns)
      (lighter_all hefts hs ns h);
}

pub counted_least : (o : Op) (hefts hs : List Heft) (ns : List ℕ) (run said : Tally)
    → Pointwise (CostsAtLeast hefts) hs ns → IsAtMost said run
    → IsAtMost (with_operation o hs said) (with_operation o (map (heft_at hefts) ns) run)
counted_least o hefts hs ns run said h g =
    operation_below o said run hs (map (heft_at hefts) ns) g (lighter_all hefts hs ns h)

-- ---- an earlier object is answered

-- a bool implied by one of two, and what both imply
implied_either : (p q r : Bool) → Implies p q → Implies p (q || r)
implied_either true true r g = refl
implied_either true false r g = cc
implied_either false q r g = tt

implied_other : (p q r : Bool) → Implies p r → Implies p (q || r)
implied_other true true r g = refl
implied_other true false r g = g
implied_other false q r g = tt

both_imply : (p q r : Bool) → Implies p r → Implies (p && q) r
both_imply true true r g = g
both_imply true false r g = tt
both_imply false q r g = tt

other_implies : (p q r : Bool) → Implies q r → Implies (p && q) r
other_implies true q r g = g
other_implies false q r g = tt

-- what is lighter than an object is lighter than the same made heavier, and so is what is lighter
-- than the answer
earlier_lighter : (v x answer : Heft) → IsLighter v x → IsLighter v (heavier x answer)
earlier_lighter v x answer h = record {
  weight = omega (arith, h.weight);
  depth = omega (arith, h.depth);
  salted = both_imply x.salted answer.salted v.salted h.salted;
  imported = implied_either v.imported x.imported answer.imported h.imported;
}

answer_lighter : (v x answer : Heft) → IsLighter v answer → IsLighter v (heavier x answer)
answer_lighter v x answer h = record {
  weight = omega (arith, h.weight);
  depth = omega (arith, h.depth);
  salted = other_implies x.salted answer.salted v.salted h.salted;
  imported = implied_other v.imported x.imported answer.imported h.imported;
}

-- all others cost the same
still_least : (answer : Heft) (k : ℕ) (hefts : List Heft) (heft : Heft) (n : ℕ)
    → CostsAtLeast hefts heft n → CostsAtLeast (answered_again answer k hefts) heft n
still_least answer k [] heft n h = h
still_least answer zero (x ∷ hefts) heft zero h = record {
  now = heavier x answer;
  is = refl;
  lighter =
      let same : h.now ≡ x = cc in
      earlier_lighter heft x answer (subst (IsLighter heft) same h.lighter);
}
still_least answer zero (x ∷ hefts) heft (suc n) h = search
still_least answer (suc k) (x ∷ hefts) heft zero h = search
still_least answer (suc k) (x ∷ hefts) heft (suc n) h =
    let l = still_least answer k hefts heft n (search) in search

again_least : (answer said : Heft) (k : ℕ) (hefts : List Heft) → k < length hefts
    → IsLighter said answer → CostsAtLeast (answered_again answer k hefts) said k
again_least answer said k [] l h = absurd (omega (arith, l))
again_least answer said zero (x ∷ hefts) l h = record {
  now = heavier x answer;
  is = refl;
  lighter = answer_lighter said x answer h;
}
again_least answer said (suc k) (x ∷ hefts) l h =
    let m = again_least answer said k hefts (omega (arith, l)) h in search

pub answered_least : (hefts : List Heft) (i : Instruction) (hs : List Heft) (ns : List ℕ) (k : ℕ)
    → Pointwise (CostsAtLeast hefts) hs ns → k < length hefts
    → IsAgain CostsAtLeast hefts (heft_of i (map (heft_at hefts) ns)) (heft_of i hs) k
answered_least hefts i hs ns k h l =
    let answer = heft_of i (map (heft_at hefts) ns) in
    record {
      kept = λ heft n g. still_least answer k hefts heft n g;
      is = again_least answer (heft_of i hs) k hefts l
          (made_below i.op (argument_size i.arg) hs (map (heft_at hefts) ns)
          (lighter_all hefts hs ns h));
    }

-- anything may be answered
abbrev pub AnswersAny : Instruction → State → Outcome → Type 0
AnswersAny instruction state outcome = ⊤

abbrev pub at_least : Reading
at_least = record {
  Weighs = CostsAtLeast;
  Counts = λ run said. IsAtMost said run;
  Raises = λ run said. ⊤;
  May = AnswersAny;
  none = at_most_itself no_tally;
  raises = λ run said later h g. tt;
  kept = kept_least;
  made = made_least;
  counted = counted_least;
  behind = λ i s e o h. tt;
  again = λ hefts i said operands s k c may h e l. answered_least hefts i said operands k h
      (omega (arith, e, l));
}
