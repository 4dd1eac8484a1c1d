-- The memo of a run, or its counterpart in the code, compared with the writes so far.
use Rattle.std.specs.Prelude.{◌≡◌, ℕ, ◌<◌, List, [], ◌∷◌, length}
use Rattle.pkstack.specs.Shape.{recalled}
use Rattle.pkopt.specs.Writers.{Writes, last_write, different}

-- each number is greater than this one
abbrev pub Above : {A : Type 0} → ℕ → List (ℕ × A) → Type 0
Above n [] = Unit {0}
Above n (e ∷ es) = (n < e.0) × Above n es

-- in strictly ascending order of their numbers
abbrev pub Rising : {A : Type 0} → List (ℕ × A) → Type 0
Rising [] = Unit {0}
Rising (e ∷ es) = Above e.0 es × Rising es

-- the entry of each number is its last write
pub record HoldsWrites (ws : Writes) (memo : List (ℕ × ℕ)) : Type 0 where
  pub found : (n : ℕ) → last_write n ws ≡ recalled n memo
  pub count : different ws ≡ length memo
  pub rising : Rising memo
