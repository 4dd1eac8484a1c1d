-- For each memo read of a pickle, the write that it reads.
use Rattle.std.specs.Prelude.{ℕ, List, [], ◌∷◌, Option, Some}

-- the writes that the reads read, in order
pub record Sourced : Type 0 where
  pub items : List (Option ℕ)

-- those that are kept as bytes
abbrev pub in_bytes : List ℕ → List (Option ℕ)
in_bytes [] = []
in_bytes (write ∷ writes) = Some write ∷ in_bytes writes
