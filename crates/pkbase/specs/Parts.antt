-- The parts of a numbered map.
use Rattle.std.specs.List.{All}
use Rattle.std.specs.Map.{keys_of}
use Rattle.std.specs.Prelude.{ℕ, List, ◌+◌, ◌<◌, ◌≤◌, ◌^◌, length}

-- the entries below a first number, the values from it on in order, and entries above those, whose
-- numbers have 32 bits
pub record AreParts {A : Type 0} (low : List (ℕ × A)) (first : ℕ) (ordered : List A)
    (rest : List (ℕ × A)) : Type 0 where
  pub below : All (λ number. number < first) (keys_of low)
  pub above : All (λ number. first + length ordered ≤ number) (keys_of rest)
  pub narrow : All (λ number. number < 2 ^ 32) (keys_of rest)
