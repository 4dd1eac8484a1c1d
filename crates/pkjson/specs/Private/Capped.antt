-- Counters that stop at a cap.
use Rattle.std.specs.Prelude.{◌≡◌, ◌<◌, ◌⊎◌, ℕ}

-- the counter equals the number, or both are above the cap
abbrev pub IsCapped : ℕ → ℕ → ℕ → Type 0
IsCapped cap n m = (m ≡ n) ⊎ ((cap < n) × (cap < m))
