-- The number of entries on the stack.
use Rattle.std.proofs.Common.{◌≡◌, ◌+◌, List, [], ◌∷◌, length, arith}
use Rattle.pkstack.specs.declared.cells.Slot.{Slot}
use Rattle.pkstack.specs.Shape.{Entry}
use Rattle.pkstack.specs.Private.Slots.{entry_of, shown}

module _ {A : Type 0} where
  length_over : (xs : List (Slot A)) (below : List (Entry A))
      → length (shown xs below) ≡ length xs + length below
  length_over [] below = omega arith
  length_over (x ∷ xs) below = let h = length_over xs (entry_of x ∷ below) in omega arith

  pub length_shown : (xs : List (Slot A)) → length (shown xs []) ≡ length xs
  length_shown xs = let h = length_over xs [] in omega arith
