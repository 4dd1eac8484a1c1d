-- What the verdicts for C say of the cost of loading.
use Rattle.std.specs.Prelude.{◌≡◌, ◌≢◌, ◌==◌, ◌&&◌, ◌⊎◌, ℕ, Bool, List, length, nat_le}
use Rattle.std.specs.Prelude.{Option, Some, None, if◌then◌else◌, option_map, unwrap_or, Ok}
use Rattle.std.specs.Prelude.{codes}
use Rattle.toml.specs.Data.{Members, get_member}
use Rattle.pkops.specs.Limits.{Bounds}
use Rattle.pkimport.specs.Import.{asked_shown}
use Rattle.pkmachine.specs.Knowledge.{Policy}
use Rattle.pklist.specs.ListFile.{list_of}
use Rattle.pklist.specs.declared.CostLimits.{CostLimits}
use Rattle.pkcheck.specs.declared.Extent.{Extent}
use Rattle.pkcheck.specs.declared.Extent.TheVariants.{OnePickle, ToTheEnd}
use Rattle.pkcheck.specs.declared.Loading.{Loading}
use Rattle.pkmachine.specs.declared.OldStrings.{OldStrings}
use Rattle.pkcheck.specs.declared.RefusedPickle.{RefusedPickle}
use Rattle.pkload.specs.Costly.{CostsTooMuch}
use Rattle.pkload.specs.Loading.{AcceptedWithBill, AcceptedWithin, IsRefused}
use Rattle.pkload.specs.Tolls.{are_counted}
use Rattle.pkload.specs.declared.Costly.{Costly}
use Rattle.pkload.specs.declared.Excess.{Excess}
use Rattle.pkload.specs.declared.Excess.TheVariants.{OutOfMemory}
use Rattle.pkload.specs.declared.Tally.{Tally}
use Rattle.pkload.specs.declared.Tolls.{Tolls}
use Rattle.pkload.specs.declared.YesWithBill.{YesWithBill}
use Rattle.pkcheck.specs.declared.YesAll.{YesAll}
use Rattle.pkguard.specs.declared.costs.Bill.{Bill}
use Rattle.pkguard.specs.declared.costs.Costs.{Costs}
use Rattle.pkguard.specs.declared.settings.Settings.{Settings}
use Rattle.pkguard.specs.declared.verdict.Verdict.{Verdict}
use Rattle.pkguard.specs.Codes.{excess_code}
use Rattle.pkguard.specs.declared.said.Said.{Said}
use Rattle.pkguard.specs.Encoding.{encoded_all, wanted_by}
use Rattle.pkguard.specs.Guard.{costs_in, memory, names_placed, nothing_told, placed}
use Rattle.pkguard.specs.Guard.{verdict_of_no, verdict_of_usage, verdict_of_yes}
use Rattle.pkguard.specs.Listed.{said_by, substitutes_in}
use Rattle.pkguard.specs.Settings.{old_strings_in}

-- the limits of a check
abbrev pub tolls_by : Costs → Tolls
tolls_by costs = record {
  levels = costs.levels;
  weight = costs.weight;
  work = costs.work;
  clash = costs.clash;
  memory = costs.memory;
  builds = costs.builds == 1;
}

-- a flag as C has it, or this one
abbrev pub flag_over : ℕ → Option Bool → ℕ
flag_over flag (Some said) = if said then 1 else 0
flag_over flag None = flag

-- the limits that a list file says, and otherwise these
abbrev pub costs_over : Costs → CostLimits → Costs
costs_over costs said = record costs {
  levels = unwrap_or said.levels costs.levels;
  weight = unwrap_or said.weight costs.weight;
  work = unwrap_or said.work costs.work;
  clash = unwrap_or said.clash costs.clash;
  memory = unwrap_or said.memory costs.memory;
  builds = flag_over costs.builds said.builds;
}

-- where a check ends
abbrev pub extent_by : Costs → Extent
extent_by costs = if costs.all == 1 then ToTheEnd else OnePickle

-- each flag is 0 or 1, and a key can exceed its limits, but for those that say that there is none
abbrev pub are_served : Costs → Bool
are_served costs =
    nat_le costs.builds 1 && nat_le costs.all 1 && are_counted (tolls_by costs)

-- how Python 2 strings are decoded, if the settings and the limits on costs are supported
abbrev pub old_strings_with : Settings → Costs → Option OldStrings
old_strings_with settings costs = if are_served costs then old_strings_in settings else None

-- the settings and the limits on costs are supported, and P holds for how Python 2 strings are
-- decoded
abbrev pub SetsWith : Settings → Costs → (OldStrings → Type 0) → Type 0
SetsWith settings costs P =
    (old : OldStrings) × (old_strings_with settings costs ≡ Some old) × P old

-- an empty bill
abbrev pub nothing_billed : Bill
nothing_billed = record { levels = 0; weight = 0; work = 0; clash = 0; memory = 0 }

-- the bill for what keys cost together, and for this many bytes of memory
abbrev pub bill_of : Tally → ℕ → Bill
bill_of tally memory = record {
  levels = tally.levels;
  weight = tally.weight;
  work = tally.work;
  clash = tally.clash;
  memory = memory;
}

-- the verdict for an instruction that exceeds a limit on costs, after this many accepted pickles
abbrev pub verdict_of_excess : ℕ → Excess → ℕ → Verdict
verdict_of_excess at excess pickles = record nothing_told {
  status = 1;
  reason = excess_code excess;
  at = at;
  pickles = pickles;
}

module _ (loading : Loading) (policy : Policy) (limits : Bounds) (tolls : Tolls) (extent : Extent)
    (pickles before after : List ℕ) (verdict : Verdict) where
  -- the pickles are accepted, what loading each of them costs is within the limits, and this is the
  -- bill of the last
  pub record IsYesWithBill (bill : Bill) : Type 0 where
    pub rest : List ℕ
    pub accepted : YesWithBill
    pub within : AcceptedWithBill loading policy limits tolls (memory pickles) (memory rest) extent
        accepted
    pub told : verdict ≡ verdict_of_yes accepted.yes.taken (length accepted.yes.imports)
        accepted.yes.pickles
    pub billed : bill ≡ bill_of accepted.tally accepted.memory
    pub room : after ≡ before

  -- the pickles are accepted, and what loading each of them costs is within the limits
  pub record IsYesWithin : Type 0 where
    pub rest : List ℕ
    pub accepted : YesAll
    pub within : AcceptedWithin loading policy limits tolls (memory pickles) (memory rest) extent
        accepted
    pub told : verdict ≡ verdict_of_yes accepted.taken (length accepted.imports) accepted.pickles
    pub room : after ≡ before

  -- a pickle is refused, and the instructions before that keep within the limits
  pub record IsNoWithin : Type 0 where
    pub rest : List ℕ
    pub refusal : RefusedPickle
    pub refused : IsRefused loading policy limits tolls (memory pickles) (memory rest) extent
        refusal
    pub told : verdict ≡ verdict_of_no refusal.no.at refusal.no.reason
        (option_map asked_shown refusal.no.pair) refusal.pickle
    pub room : after ≡ names_placed (option_map asked_shown refusal.no.pair) before

  -- a pickle exceeds a limit on costs, at an instruction that the check accepts. A reason of
  -- OutOfMemory says no more than that the bill couldn't be kept
  pub record IsCostly : Type 0 where
    pub costly : Costly
    pub exceeds : costly.excess ≢ OutOfMemory → CostsTooMuch loading policy limits tolls
        (memory pickles) extent costly.pickle costly.at costly.excess
    pub told : verdict ≡ verdict_of_excess costly.at costly.excess costly.pickle
    pub room : after ≡ before

  -- a pickle is refused, or exceeds a limit on costs
  abbrev pub IsNoOrCostly : Type 0
  IsNoOrCostly = IsNoWithin ⊎ IsCostly

-- the settings or the limits on costs are not supported
pub record IsUsageWith (settings : Settings) (costs : Costs) (before after : List ℕ)
    (verdict : Verdict) : Type 0 where
  pub unserved : old_strings_with settings costs ≡ None
  pub told : verdict ≡ verdict_of_usage
  pub room : after ≡ before

-- the bytes are a list file, and what it says of the cost of loading is in place of these limits
pub record AreCostsOf (list : List ℕ) (before after : Costs) (verdict : Verdict) : Type 0 where
  pub document : Members
  pub is_list : list_of list ≡ Ok document
  pub costs : after ≡ costs_over before (costs_in document)
  pub told : verdict ≡ nothing_told

-- the bytes are a list file; which keys it has is reported, and its substitutes are in the buffer
-- if it has room for all of them
pub record IsListTold (list before after : List ℕ) (said : Said) (wanted : ℕ) (verdict : Verdict)
    : Type 0 where
  pub document : Members
  pub is_list : list_of list ≡ Ok document
  pub keys : said ≡ said_by (get_member (codes "limits") document) (costs_in document)
  pub asks : wanted ≡ wanted_by (substitutes_in (get_member (codes "substitutes") document))
  pub room : after
      ≡ placed (encoded_all (substitutes_in (get_member (codes "substitutes") document))) before
  pub told : verdict ≡ nothing_told
