-- What the audience knows behind one more report.
use Rattle.std.proofs.Common.{◌≡◌, ℕ, [], ◌∷◌, Option, None, Some, Ok, refl, sym, subst, IfOk}
use Rattle.std.specs.Prelude.{⊤}
use Rattle.std.specs.Option.{MatchOption}
use Rattle.pkcheck.specs.Reports.{Told, report}
use Rattle.pkload.specs.Private.Billing.{IfBilled}
use Rattle.pkload.specs.Private.Meter.{Fits, IsTooMuch, Meter, Meters}
use Rattle.pkload.specs.Private.Told.{CantBeMetered, metered_told, ready}
use Rattle.pkload.specs.Tolls.{Exceeds}
use Rattle.pkload.specs.declared.halt.Billing.{Billing}
use Rattle.pkload.specs.declared.halt.Billing.TheVariants.{Plain, Noted, Failed}
use Rattle.pkload.specs.declared.tolls.Excess.{Excess}
use Rattle.pkload.specs.declared.tolls.Excess.TheVariants.{OutOfMemory}

module _ (x y : Meter) (told : Told) (marks : ℕ) (none : x.excess ≡ None)
    (tolls : y.tolls ≡ x.tolls) (memo : y.memo ≡ x.memo) where
  abbrev Metered : Type 0
  Metered = Meters x y (report y.at told marks ∷ [])

  -- the bill can't be kept
  pub not_metered : CantBeMetered (ready x.memo x.metering) told → y.excess ≡ Some OutOfMemory
      → Metered
  not_metered k out = record {
    tolls = tolls;
    memo = memo;
    going = λ s. none;
    before = λ e. none;
    is = λ e. cc (e, out);
    fits = λ e. cc (e, out);
    over = λ e h g. (
      refl,
      record {
        limit = λ ne. absurd (ne (cc (g, out)));
        unkept = λ same. k;
      },
    );
  }

  module _ (is : metered_told x.memo told x.metering ≡ Ok y.metering) where
    -- no limit is exceeded
    pub metered_within : y.excess ≡ None → Fits y.tolls y.metering → Metered
    metered_within out fits = record {
      tolls = tolls;
      memo = memo;
      going = λ s. none;
      before = λ e. none;
      is = λ e. cc is;
      fits = λ e. subst
          (λ r. IfOk r (λ n. Fits x.tolls n × ⊤)) (sym is)
          (subst (λ t. Fits t y.metering) tolls fits, tt);
      over = λ e h g. cc (g, out);
    }

    -- a limit is exceeded
    pub metered_over : (excess : Excess) → y.excess ≡ Some excess
        → Exceeds excess y.tolls y.metering.bill.tally y.metering.bill.memory → Metered
    metered_over excess out exceeds = record {
      tolls = tolls;
      memo = memo;
      going = λ s. none;
      before = λ e. none;
      is = λ e. cc (e, out);
      fits = λ e. cc (e, out);
      over = λ e h g. (
        refl,
        subst (λ q. IsTooMuch q x.memo x.tolls x.metering (report y.at told marks) y.metering)
            (cc (g, out)) (above exceeds),
      );
    }
      where
        above : Exceeds excess y.tolls y.metering.bill.tally y.metering.bill.memory
            → IsTooMuch excess x.memo x.tolls x.metering (report y.at told marks) y.metering
        above h = record {
          limit = λ ne. (
            is,
            subst (λ t. Exceeds excess t y.metering.bill.tally y.metering.bill.memory) tolls h,
          );
          unkept = λ same. absurd ((subst (λ q. Exceeds q y.tolls y.metering.bill.tally
              y.metering.bill.memory) same h).0);
        }

    by_excess : (o : Option Excess) → y.excess ≡ o
        → MatchOption o (Fits y.tolls y.metering)
        (λ e. Exceeds e y.tolls y.metering.bill.tally y.metering.bill.memory) → Metered
    by_excess None same h = metered_within same h
    by_excess (Some excess) same h = metered_over excess same h

  pub one_metered : (billing : Billing)
      → IfBilled billing (metered_told x.memo told x.metering ≡ Ok y.metering)
      → (billing ≡ Failed → CantBeMetered (ready x.memo x.metering) told)
      → IfBilled billing (MatchOption y.excess (Fits y.tolls y.metering)
      (λ e. Exceeds e y.tolls y.metering.bill.tally y.metering.bill.memory))
      → (billing ≡ Failed → y.excess ≡ Some OutOfMemory) → Metered
  one_metered Plain is failed h out = by_excess is y.excess refl h
  one_metered Noted is failed h out = by_excess is y.excess refl h
  one_metered Failed is failed h out = not_metered (failed refl) (out refl)
