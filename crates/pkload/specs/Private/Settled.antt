-- What is known of the bill where a check ends.
use Rattle.std.specs.Prelude.{◌≡◌, ◌≤◌, ◌<◌, ⊤, ℕ, Result, Ok, Err, Some}
use Rattle.std.specs.Option.{MatchOption}
use Rattle.pkcheck.specs.declared.check_loop.RefusedPickle.{RefusedPickle}
use Rattle.pkcheck.specs.declared.row_of_pickles.YesAll.{YesAll}
use Rattle.pkload.specs.Private.Meter.{Meter}
use Rattle.pkload.specs.declared.checking.Costly.{Costly}
use Rattle.pkload.specs.declared.checking.YesWithBill.{YesWithBill}

-- the answer of the check, with the bill of the last pickle if it is yes
abbrev pub IsBilledAs : Meter → Result YesAll RefusedPickle → Result YesWithBill RefusedPickle
    → Type 0
IsBilledAs meter (Ok accepted) (Ok billed) = (billed.yes ≡ accepted)
    × (billed.tally ≡ meter.metering.bill.tally) × (billed.memory ≡ meter.metering.bill.memory)
IsBilledAs meter (Err refused) (Err same) = same ≡ refused
IsBilledAs meter _ _ = ⊥

-- the check refuses nothing at this place or before it
abbrev pub IsRefusedLater : Costly → Result YesAll RefusedPickle → Type 0
IsRefusedLater costly (Ok accepted) = ⊤
IsRefusedLater costly (Err refused) = costly.at < refused.no.at

-- no limit is exceeded before this place
abbrev pub NoneBefore : ℕ → Meter → Type 0
NoneBefore place meter = MatchOption meter.excess ⊤ (λ _. place ≤ meter.at)

-- the audience knows of this limit
pub record IsCostlyBy (meter : Meter) (answer : Result YesAll RefusedPickle) (costly : Costly)
    : Type 0 where
  pub excess : meter.excess ≡ Some costly.excess
  pub pickle : costly.pickle ≡ meter.metering.pickle
  pub at : costly.at ≡ meter.at
  pub later : IsRefusedLater costly answer
