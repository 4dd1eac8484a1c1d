-- A list given as an array of pairs.
use Rattle.std.specs.Prelude.{◌≡◌, ℕ, zero, suc, ◌+◌, ◌-◌, ◌/◌, nat_lt, List, Bool, true, false}
use Rattle.std.specs.Prelude.{◌&&◌, if◌then◌else◌, length, Option, Some, None, option_map}
use Rattle.std.specs.Prelude.{slice_get}
use Rattle.std.specs.Cmp.Lexicographic.{slice_cmp}
use Rattle.std.specs.List.{list_any}
use Rattle.std.specs.List.Sorted.{IsSorted}
use Rattle.std.specs.declared.cmp.Ordering.{Ordering}
use Rattle.std.specs.declared.cmp.Ordering.TheVariants.{Less, Equal, Greater}
use Rattle.std.specs.Ordering.{nat_cmp, ordering_then}
use Rattle.std.specs.Str.{bytes_eq}
use Rattle.pklist.specs.declared.pairs.Pair.{Pair}

-- one of the pairs has this module and this name
abbrev pub have : List Pair → List ℕ → List ℕ → Bool
have pairs module_name name =
    list_any (λ p. bytes_eq p.module_name.now module_name && bytes_eq p.name.now name) pairs

-- how a pair compares with this module and name: by module, then by name, byte for byte
abbrev pub order_to : List ℕ → List ℕ → Pair → Ordering
order_to module_name name pair =
    ordering_then (slice_cmp nat_cmp pair.module_name.now module_name)
    (slice_cmp nat_cmp pair.name.now name)

-- the pairs are sorted in that order
abbrev pub AreInOrder : List Pair → Type 0
AreInOrder pairs = IsSorted (λ a b. order_to b.module_name.now b.name.now a) pairs

-- how a binary search goes on from the middle pair: it has found the pair, or it searches the upper
-- or the lower half
abbrev pub by_middle : Option Ordering → (above below : Bool) → Bool
by_middle (Some Less) above below = above
by_middle (Some Equal) above below = true
by_middle (Some Greater) above below = below
by_middle None above below = false

-- a binary search between two indices finds the pair within this many steps
abbrev pub comes_to : (Pair → Ordering) → List Pair → (steps low high : ℕ) → Bool
comes_to order pairs zero low high = false
comes_to order pairs (suc steps) low high =
    if nat_lt low high
    then by_middle (option_map order (slice_get pairs (low + (high - low) / 2)))
    (comes_to order pairs steps (low + (high - low) / 2 + 1) high)
    (comes_to order pairs steps low (low + (high - low) / 2))
    else false

-- a binary search finds the pair with this module and name
abbrev pub found : List Pair → List ℕ → List ℕ → Bool
found pairs module_name name =
    comes_to (order_to module_name name) pairs (length pairs) 0 (length pairs)

-- a pair that a binary search finds is in the array, whatever the order; in a sorted array it finds
-- every pair
pub record HalvingIsRight : Type 0 where
  pub no_more : (pairs : List Pair) (module_name name : List ℕ)
      → found pairs module_name name ≡ true → have pairs module_name name ≡ true
  pub all : (pairs : List Pair) (module_name name : List ℕ)
      → AreInOrder pairs → found pairs module_name name ≡ have pairs module_name name
