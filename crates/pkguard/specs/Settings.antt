-- What the settings of a check mean.
use Rattle.std.specs.Prelude.{◌≡◌, ◌==◌, ◌&&◌, ℕ, Bool, true, List, nat_le, if◌then◌else◌, min}
use Rattle.std.specs.Prelude.{Option, Some, None}
use Rattle.pkops.specs.Limits.{Bounds, bounds, greatest, greatest_large}
use Rattle.pkcheck.specs.declared.Loading.{Loading}
use Rattle.pkmachine.specs.declared.Memo.TheVariants.{Fresh, Kept}
use Rattle.pkmachine.specs.declared.OldStrings.{OldStrings}
use Rattle.pkmachine.specs.declared.OldStrings.TheVariants.{Unknown, Ascii, Bytes}
use Rattle.pklist.specs.declared.Pair.{Pair}
use Rattle.pklist.specs.Pairs.{AreInOrder, found, have}
use Rattle.pkguard.specs.declared.settings.Settings.{Settings}

-- each limit of the settings, capped by the other one
abbrev pub limits_within : Bounds → Settings → Bounds
limits_within most settings =
    bounds (min settings.counted most.counted) (min settings.stack most.stack)
    (min settings.memo most.memo) most.depth most.values (min settings.passed most.passed)
    (min settings.numbers most.numbers)

-- the limits of a check under pairs, capped by the greatest ones, for large data or not
abbrev pub limits_by : Settings → Bounds
limits_by settings =
    limits_within (if settings.large == 1 then greatest_large else greatest) settings

-- how the pickles of a row are loaded, with Python 2 strings decoded as `old` says
abbrev pub loading_by : Settings → OldStrings → Loading
loading_by settings old = record {
  memo = if settings.row_memo == 1 then Kept else Fresh;
  old_strings = old;
}

-- how Python 2 strings are decoded, by a number that never changes
abbrev pub old_strings_of : ℕ → Option OldStrings
old_strings_of number =
    if number == 0 then Some Unknown
    else if number == 1 then Some Ascii
    else if number == 2 then Some Bytes
    else None

-- the settings have the size of this version, and each flag is 0 or 1
abbrev pub is_served : Settings → Bool
is_served settings =
    settings.size == 64 && nat_le settings.row_memo 1 && nat_le settings.large 1
    && nat_le settings.sorted 1

-- how Python 2 strings are decoded, if the settings are supported
abbrev pub old_strings_in : Settings → Option OldStrings
old_strings_in settings =
    if is_served settings then old_strings_of settings.old_strings else None

-- the settings are supported, and P holds for how they decode Python 2 strings
abbrev pub Sets : Settings → (OldStrings → Type 0) → Type 0
Sets settings P = (old : OldStrings) × (old_strings_in settings ≡ Some old) × P old

-- the permitted pairs: all of the array, or those that a binary search finds if the caller vouches
-- for their order
abbrev pub listed_by : Settings → List Pair → List ℕ → List ℕ → Bool
listed_by settings pairs = if settings.sorted == 1 then found pairs else have pairs

-- only pairs of the array are permitted, and all of them if the caller's promise of order holds
pub record PermitsPairs (settings : Settings) (pairs : List Pair) : Type 0 where
  pub no_more : (module_name name : List ℕ) → listed_by settings pairs module_name name ≡ true
      → have pairs module_name name ≡ true
  pub all : (settings.sorted ≡ 1 → AreInOrder pairs) → (module_name name : List ℕ)
      → listed_by settings pairs module_name name ≡ have pairs module_name name
