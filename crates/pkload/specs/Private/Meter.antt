-- What the audience that keeps the bill knows.
use Rattle.std.proofs.Common.{◌≡◌, ℕ, List, [], ◌∷◌, ◌++◌, Option, None, Some, Result, Ok, Err}
use Rattle.std.proofs.Common.{IfOk, refl, ap, subst, sym, ◌∙◌}
use Rattle.std.specs.Prelude.{⊤, ◌≢◌}
use Rattle.pkcheck.specs.Reports.{Report}
use Rattle.pkstack.specs.Shape.{Breach, and_then}
use Rattle.pkmachine.specs.declared.memo.Memo.{Memo}
use Rattle.pkload.specs.Private.Told.{CantBeMetered, Metering, all_metered, metered, ready}
use Rattle.pkload.specs.Tolls.{Exceeds, KeepsWithin, unlimited}
use Rattle.pkload.specs.declared.tolls.Excess.{Excess}
use Rattle.pkload.specs.declared.tolls.Excess.TheVariants.{OutOfMemory}
use Rattle.pkload.specs.declared.tolls.Tolls.{Tolls}

-- the number of the pickle and its bill, the limits, how the memo is kept between pickles, and the
-- first limit exceeded, with the offset of the instruction
pub record Meter : Type 0 where
  pub metering : Metering
  pub tolls : Tolls
  pub memo : Memo
  pub excess : Option Excess
  pub at : ℕ

-- what was metered keeps within the limits
abbrev pub Fits : Tolls → Metering → Type 0
Fits tolls m = KeepsWithin tolls m.bill.tally m.bill.memory

-- without limits only an allocation can be refused, or a sum be too great
abbrev pub IsUnlimited : Option Excess → Type 0
IsUnlimited None = ⊤
IsUnlimited (Some excess) = excess ≡ OutOfMemory

-- what was metered fits after each report
abbrev pub AllFit : Memo → Tolls → List Report → Metering → Type 0
AllFit memo tolls [] m = ⊤
AllFit memo tolls (r ∷ rs) m =
    IfOk (metered memo r m) (λ n. Fits tolls n × AllFit memo tolls rs n)

-- why the report is one too many: a limit is exceeded, or the bill can't be kept
pub record IsTooMuch (excess : Excess) (memo : Memo) (tolls : Tolls) (m : Metering) (r : Report)
    (n : Metering) : Type 0 where
  pub limit : excess ≢ OutOfMemory
      → (metered memo r m ≡ Ok n) × Exceeds excess tolls n.bill.tally n.bill.memory
  pub unkept : excess ≡ OutOfMemory → CantBeMetered (ready memo m) r.told

module _ (memo : Memo) (tolls : Tolls) (excess : Excess) (at : ℕ) (n : Metering) where
  -- the last of the reports, at this offset, is the first that is too much
  abbrev pub IsOver : List Report → Metering → Type 0
  IsOver [] m = ⊥
  IsOver (r ∷ []) m = (at ≡ r.at) × IsTooMuch excess memo tolls m r n
  IsOver (r ∷ s ∷ rs) m =
      (k : Metering) × (metered memo r m ≡ Ok k) × Fits tolls k × IsOver (s ∷ rs) k

-- something was observed
abbrev pub HasSome : List Report → Type 0
HasSome [] = ⊥
HasSome (r ∷ rs) = ⊤

-- between two states of the audience the limits stay; nothing more is observed once a limit
-- was exceeded; while none is, what was observed is metered
pub record Meters (x y : Meter) (rs : List Report) : Type 0 where
  pub tolls : y.tolls ≡ x.tolls
  pub memo : y.memo ≡ x.memo
  pub going : HasSome rs → x.excess ≡ None
  pub before : y.excess ≡ None → x.excess ≡ None
  pub is : y.excess ≡ None → all_metered x.memo rs x.metering ≡ Ok y.metering
  pub fits : y.excess ≡ None → AllFit x.memo x.tolls rs x.metering
  pub over : (e : Excess) → x.excess ≡ None → y.excess ≡ Some e
      → IsOver x.memo x.tolls e y.at y.metering rs x.metering

-- the audience, when it observes one more, stops the check for the limit that was exceeded
pub record StopsFor (x y : Meter) (excess : Excess) : Type 0 where
  pub same : y ≡ x
  pub named : x.excess ≡ Some excess
  pub unlimited : x.tolls ≡ unlimited → excess ≡ OutOfMemory

-- what is observed in two parts is metered in two parts
pub metered_more : (memo : Memo) (rs qs : List Report) (m : Metering)
    → all_metered memo (rs ++ qs) m ≡ and_then (all_metered memo rs m) (all_metered memo qs)
metered_more memo [] qs m = refl
metered_more memo (r ∷ rs) qs m = after_one (metered memo r m) (λ n. metered_more memo rs qs n)
  where
    after_one : (x : Result Metering Breach)
        → ((n : Metering) → all_metered memo (rs ++ qs) n
        ≡ and_then (all_metered memo rs n) (all_metered memo qs))
        → and_then x (all_metered memo (rs ++ qs))
        ≡ and_then (and_then x (all_metered memo rs)) (all_metered memo qs)
    after_one (Ok n) on = on n
    after_one (Err e) on = refl

fits_next : (memo : Memo) (tolls : Tolls) (rs qs : List Report) (x : Result Metering Breach)
    (n : Metering) → and_then x (all_metered memo rs) ≡ Ok n
    → IfOk x (λ m. Fits tolls m × AllFit memo tolls rs m)
    → ((m : Metering) → all_metered memo rs m ≡ Ok n → AllFit memo tolls rs m
    → AllFit memo tolls (rs ++ qs) m)
    → IfOk x (λ m. Fits tolls m × AllFit memo tolls (rs ++ qs) m)
fits_next memo tolls rs qs (Ok m) n e h on = (h.0, on m e h.1)
fits_next memo tolls rs qs (Err f) n e h on = tt

abbrev pub metering_in : Metering → Result Metering Breach → Metering
metering_in m (Ok n) = n
metering_in m (Err e) = m

-- what fits in two parts fits
pub fits_more : (memo : Memo) (tolls : Tolls) (rs qs : List Report) (m n : Metering)
    → all_metered memo rs m ≡ Ok n → AllFit memo tolls rs m → AllFit memo tolls qs n
    → AllFit memo tolls (rs ++ qs) m
fits_more memo tolls [] qs m n e h g = subst (AllFit memo tolls qs) (sym (ap (metering_in m) e)) g
fits_more memo tolls (r ∷ rs) qs m n e h g =
    fits_next memo tolls rs qs (metered memo r m) n e h
    (λ k j l. fits_more memo tolls rs qs k n j l g)

module _ (memo : Memo) (tolls : Tolls) (excess : Excess) (at : ℕ) (n : Metering) (c : Report) where
  abbrev Over : List Report → Metering → Type 0
  Over = IsOver memo tolls excess at n

  over_after : (r : Report) (rs : List Report) (m k : Metering) (x : Result Metering Breach)
      → metered memo r m ≡ x → and_then x (all_metered memo rs) ≡ Ok k
      → IfOk x (λ j. Fits tolls j × AllFit memo tolls rs j)
      → ((j : Metering) → all_metered memo rs j ≡ Ok k → AllFit memo tolls rs j
      → Over (rs ++ c ∷ []) j)
      → (j : Metering) × (metered memo r m ≡ Ok j) × Fits tolls j × Over (rs ++ c ∷ []) j
  over_after r rs m k (Ok j) same e h on = (j, same, h.0, on j e h.1)
  over_after r rs m k (Err f) same e h on = cc e

  -- one report more is too much
  pub over_more : (rs : List Report) (m k : Metering) → all_metered memo rs m ≡ Ok k
      → AllFit memo tolls rs m → Over (c ∷ []) k → Over (rs ++ c ∷ []) m
  over_more [] m k e f o = subst (Over (c ∷ [])) (sym (ap (metering_in m) e)) o
  over_more (r ∷ []) m k e f o =
      over_after r [] m k (metered memo r m) refl e f (λ j q g. over_more [] j k q g o)
  over_more (r ∷ s ∷ rs) m k e f o =
      over_after r (s ∷ rs) m k (metered memo r m) refl e f
      (λ j q g. over_more (s ∷ rs) j k q g o)

pub meters_none : (x : Meter) → Meters x x []
meters_none x = record {
  tolls = refl;
  memo = refl;
  going = λ s. absurd s;
  before = λ e. e;
  is = λ e. refl;
  fits = λ e. tt;
  over = λ e h g. cc (h, g);
}

module _ (x y z : Meter) (rs : List Report) (r : Report) (f : Meters x y rs)
    (g : Meters y z (r ∷ [])) where
  then_metered : (n : Metering) → all_metered y.memo (r ∷ []) y.metering ≡ Ok n
      → all_metered x.memo (rs ++ r ∷ []) x.metering ≡ Ok n
  then_metered n h = metered_more x.memo rs (r ∷ []) x.metering
      ∙ ap (λ m. and_then m (all_metered x.memo (r ∷ []))) (f.is (g.going tt))
      ∙ subst (λ o. all_metered o (r ∷ []) y.metering ≡ Ok n) f.memo h

  fits_then : AllFit y.memo y.tolls (r ∷ []) y.metering
      → AllFit x.memo x.tolls (rs ++ r ∷ []) x.metering
  fits_then h = fits_more x.memo x.tolls rs (r ∷ []) x.metering y.metering (f.is (g.going tt))
      (f.fits (g.going tt)) (subst (λ t. AllFit x.memo t (r ∷ []) y.metering) f.tolls
      (subst (λ o. AllFit o y.tolls (r ∷ []) y.metering) f.memo h))

  over_then : (e : Excess) → IsOver y.memo y.tolls e z.at z.metering (r ∷ []) y.metering
      → IsOver x.memo x.tolls e z.at z.metering (rs ++ r ∷ []) x.metering
  over_then e h = over_more x.memo x.tolls e z.at z.metering r rs x.metering y.metering
      (f.is (g.going tt)) (f.fits (g.going tt))
      (subst (λ t. IsOver x.memo t e z.at z.metering (r ∷ []) y.metering) f.tolls
      (subst (λ o. IsOver o y.tolls e z.at z.metering (r ∷ []) y.metering) f.memo h))

  pub meters_more : Meters x z (rs ++ r ∷ [])
  meters_more = record {
    tolls = g.tolls ∙ f.tolls;
    memo = g.memo ∙ f.memo;
    going = λ s. f.before (g.going tt);
    before = λ e. f.before (g.before e);
    is = λ e. then_metered z.metering (g.is e);
    fits = λ e. fits_then (g.fits e);
    over = λ e h w. over_then e (g.over e (g.going tt) w);
  }
