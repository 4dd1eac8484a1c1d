-- When a map of numbers wants memory.
use Rattle.std.specs.Prelude.{ℕ, ◌≡◌, ◌≤◌, List, length, None}
use Rattle.std.specs.BTreeMap.{insert_entry, is_at}
use Rattle.std.specs.Map.{lookup}
use Rattle.std.specs.Ordering.{nat_cmp}

-- the number is new, and with it there are no more entries than may be: only memory is lacking
abbrev pub LacksRoom : {V : Type 0} → ℕ → List (ℕ × V) → ℕ → V → Type 0
LacksRoom most entries number value =
    (lookup (is_at (nat_cmp number)) entries ≡ None)
    × (length (insert_entry nat_cmp entries number value) ≤ most)
