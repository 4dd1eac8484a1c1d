-- Limits on what loading may cost.
use Rattle.std.specs.Prelude.{◌≡◌, ◌≤◌, ◌<◌, ◌⊎◌, ◌==◌, ◌&&◌, ◌||◌, ⊤, ℕ, Bool, true, false}
use Rattle.std.specs.Prelude.{nat_lt, unwrap_or}
use Rattle.pklist.specs.declared.CostLimits.{CostLimits}
use Rattle.pkload.specs.Heft.{most_depth, most_weight}
use Rattle.pkload.specs.Tally.{Implies}
use Rattle.pkload.specs.declared.tally.Tally.{Tally}
use Rattle.pkload.specs.declared.tolls.Tolls.{Tolls}
use Rattle.pkload.specs.declared.tolls.Excess.{Excess}
use Rattle.pkload.specs.declared.tolls.Excess.TheVariants.{DeepKey, HeavyKeys, ManyKeys}
use Rattle.pkload.specs.declared.tolls.Excess.TheVariants.{MuchMemory, BuildsImport, OutOfMemory}

-- the default limits
abbrev pub standard : Tolls
standard = record {
  levels = 1_000;
  weight = 1_000_000;
  work = 100_000_000;
  clash = 18_446_744_073_709_551_615;
  memory = 18_446_744_073_709_551_615;
  builds = false;
}

-- no limits
abbrev pub unlimited : Tolls
unlimited = record {
  levels = 4_294_967_295;
  weight = 4_294_967_295;
  work = 18_446_744_073_709_551_615;
  clash = 18_446_744_073_709_551_615;
  memory = 18_446_744_073_709_551_615;
  builds = true;
}

-- there is such a limit on what is counted up to `most`, since a key can exceed it, or it is the
-- number that says that there is none
abbrev pub is_counted : (most limit : ℕ) → Bool
is_counted most limit = nat_lt limit most || limit == 4_294_967_295

-- there are such limits on the depth and the weight of a key
abbrev pub are_counted : Tolls → Bool
are_counted tolls = is_counted most_depth tolls.levels && is_counted most_weight tolls.weight

-- the limits that a list file says, and no others
abbrev pub tolls_said : CostLimits → Tolls
tolls_said said = record {
  levels = unwrap_or said.levels unlimited.levels;
  weight = unwrap_or said.weight unlimited.weight;
  work = unwrap_or said.work unlimited.work;
  clash = unwrap_or said.clash unlimited.clash;
  memory = unwrap_or said.memory unlimited.memory;
  builds = unwrap_or said.builds unlimited.builds;
}

-- each count is at most its limit, and BUILD takes no imported object unless it may
pub record IsWithin (tolls : Tolls) (tally : Tally) : Type 0 where
  pub levels : tally.levels ≤ tolls.levels
  pub weight : tally.weight ≤ tolls.weight
  pub work : tally.work ≤ tolls.work
  pub clash : tally.clash ≤ tolls.clash
  pub builds : Implies tally.builds tolls.builds

-- what the reason names holds, given the memory that loading takes; a refused allocation is no
-- excess
abbrev pub IsExcess : Excess → Tolls → Tally → ℕ → Type 0
IsExcess DeepKey tolls tally memory = tolls.levels < tally.levels
IsExcess HeavyKeys tolls tally memory = (tolls.weight < tally.weight) ⊎ (tolls.work < tally.work)
IsExcess ManyKeys tolls tally memory = tolls.clash < tally.clash
IsExcess MuchMemory tolls tally memory = tolls.memory < memory
IsExcess BuildsImport tolls tally memory = (tally.builds ≡ true) × (tolls.builds ≡ false)
IsExcess OutOfMemory tolls tally memory = ⊥

-- no reason that is tried earlier holds
abbrev pub IsFirstExcess : Excess → Tolls → Tally → ℕ → Type 0
IsFirstExcess DeepKey tolls tally memory = ⊤
IsFirstExcess HeavyKeys tolls tally memory = tally.levels ≤ tolls.levels
IsFirstExcess ManyKeys tolls tally memory =
    (tally.levels ≤ tolls.levels) × (tally.weight ≤ tolls.weight) × (tally.work ≤ tolls.work)
IsFirstExcess MuchMemory tolls tally memory =
    (tally.levels ≤ tolls.levels) × (tally.weight ≤ tolls.weight) × (tally.work ≤ tolls.work)
    × (tally.clash ≤ tolls.clash)
IsFirstExcess BuildsImport tolls tally memory =
    (tally.levels ≤ tolls.levels) × (tally.weight ≤ tolls.weight) × (tally.work ≤ tolls.work)
    × (tally.clash ≤ tolls.clash) × (memory ≤ tolls.memory)
IsFirstExcess OutOfMemory tolls tally memory = ⊤

-- a limit is exceeded that the reason names, and none that is tried earlier
abbrev pub Exceeds : Excess → Tolls → Tally → ℕ → Type 0
Exceeds excess tolls tally memory =
    IsExcess excess tolls tally memory × IsFirstExcess excess tolls tally memory

-- each count is within its limit, and so is the memory
abbrev pub KeepsWithin : Tolls → Tally → ℕ → Type 0
KeepsWithin tolls tally memory = IsWithin tolls tally × (memory ≤ tolls.memory)
