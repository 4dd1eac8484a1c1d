-- The names that a list has are of bounded length.
use Rattle.std.specs.Prelude.{◌≡◌, ◌≤◌, ℕ, Bool, true, List, length}
use Rattle.pklist.specs.declared.allow.Allow.{Allow}
use Rattle.pklist.specs.declared.pairs.Pair.{Pair}
use Rattle.pklist.specs.Allow.{lists}
use Rattle.pklist.specs.ListFile.{Text}
use Rattle.pklist.specs.Pairs.{found, have}

-- there is a length that no module and no name of these pairs exceeds
abbrev pub HasLongest : (Text → Text → Bool) → Type 0
HasLongest has =
    (bound : ℕ)
    × ((module_name name : Text) → has module_name name ≡ true
    → (length module_name ≤ bound) × (length name ≤ bound))

-- so it is with the pairs of a list file, those of an array, and those that a binary search finds
pub record NamesAreBounded : Type 0 where
  pub of_list : (list : Allow) → HasLongest (lists list)
  pub of_array : (pairs : List Pair) → HasLongest (have pairs)
  pub of_search : (pairs : List Pair) → HasLongest (found pairs)
