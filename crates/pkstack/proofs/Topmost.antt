-- The top of the stack, in terms of the entries of the store.
use Rattle.std.proofs.Common.{◌≡◌, ℕ, suc, ◌-◌, ◌<◌, List, [], ◌∷◌, length, take, drop, get_or, Ok}
use Rattle.std.proofs.Common.{Err, refl, subst, arith}
use Rattle.std.proofs.Math.Seq.{take-length}
use Rattle.pkstack.specs.declared.cells.Slot.{Slot}
use Rattle.pkstack.specs.declared.cells.Slot.TheVariants as slot
use Rattle.pkstack.specs.Shape.{top, NoItem}
use Rattle.pkstack.specs.Private.Slots.{entry_of, shown}
use Rattle.pkstack.proofs.Shown.{shown_take}

module _ {A : Type 0} where
  pub shown_top : (xs : List (Slot A)) (n : ℕ) (d x : Slot A) → length xs ≡ suc n
      → get_or xs n d ≡ x → shown xs [] ≡ entry_of x ∷ shown (take n xs) []
  shown_top xs n d x e g = let lt : n < length xs = omega arith in
      subst (λ ys. shown ys [] ≡ entry_of x ∷ shown (take n xs) []) (take-length xs)
      (shown_take xs (length xs) n d x e lt g)

  pub top_mark : (xs : List (Slot A)) (d : Slot A) → 0 < length xs
      → get_or xs (length xs - 1) d ≡ slot.Mark → top (shown xs []) ≡ Err NoItem
  top_mark xs d h e =
      let is : length xs ≡ suc (length xs - 1) = omega arith in
      rw (shown_top xs (length xs - 1) d slot.Mark is e) refl

  pub top_object : (xs : List (Slot A)) (d : Slot A) (v : A) → 0 < length xs
      → get_or xs (length xs - 1) d ≡ slot.Object v
      → top (shown xs []) ≡ Ok (v, drop 1 (shown xs []))
  top_object xs d v h e =
      let is : length xs ≡ suc (length xs - 1) = omega arith in
      rw (shown_top xs (length xs - 1) d (slot.Object v) is e) refl
