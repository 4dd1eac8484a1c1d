-- What the verdicts for C say of imports that are listed within limits on costs.
use Rattle.std.specs.Prelude.{◌≡◌, ◌⊎◌, ℕ, List, length, None}
use Rattle.pkops.specs.Limits.{Bounds}
use Rattle.pkcheck.specs.declared.Extent.TheVariants.{OnePickle}
use Rattle.pkcheck.specs.declared.Loading.{Loading}
use Rattle.pkcheck.specs.declared.RefusedPickle.{RefusedPickle}
use Rattle.pkload.specs.Loading.{AcceptedWithBill, IsRefused}
use Rattle.pkload.specs.declared.Tolls.{Tolls}
use Rattle.pkload.specs.declared.YesWithBill.{YesWithBill}
use Rattle.pkguard.specs.declared.costs.Bill.{Bill}
use Rattle.pkguard.specs.declared.verdict.Verdict.{Verdict}
use Rattle.pkguard.specs.Encoding.{encoded_all, wanted_by}
use Rattle.pkguard.specs.Guard.{memory, placed, verdict_behind, verdict_of_yes}
use Rattle.pkguard.specs.Loading.{IsCostly, bill_of}

module _ (loading : Loading) (limits : Bounds) (tolls : Tolls) (pickle before after : List ℕ)
    (wanted : ℕ) (verdict : Verdict) where
  -- the pickle at the front of the bytes is accepted with every import permitted, what loading it
  -- costs is within the limits and reported, and its imports are in the buffer if it has room for
  -- all of them
  pub record IsImportsWithBill (bill : Bill) : Type 0 where
    pub rest : List ℕ
    pub accepted : YesWithBill
    pub within : AcceptedWithBill loading None limits tolls (memory pickle) (memory rest) OnePickle
        accepted
    pub told : verdict ≡ verdict_of_yes accepted.yes.taken (length accepted.yes.imports) 1
    pub billed : bill ≡ bill_of accepted.tally accepted.memory
    pub asks : wanted ≡ wanted_by accepted.yes.imports
    pub room : after ≡ placed (encoded_all accepted.yes.imports) before

  -- the pickle is refused with every import permitted, the instructions before that keep within the
  -- limits, and their imports are in the buffer if it has room for all of them
  pub record IsImportsWithin : Type 0 where
    pub rest : List ℕ
    pub refusal : RefusedPickle
    pub refused : IsRefused loading None limits tolls (memory pickle) (memory rest) OnePickle
        refusal
    pub told : verdict ≡ verdict_behind refusal.no.at refusal.no.reason (length refusal.imports)
    pub asks : wanted ≡ wanted_by refusal.imports
    pub room : after ≡ placed (encoded_all refusal.imports) before

  -- the pickle exceeds a limit on costs, and nothing is listed
  pub record IsUnlisted : Type 0 where
    pub costly : IsCostly loading None limits tolls OnePickle pickle before after verdict
    pub none : wanted ≡ 0

  -- the pickle is refused, or exceeds a limit on costs
  abbrev pub IsCutShort : Type 0
  IsCutShort = IsImportsWithin ⊎ IsUnlisted
