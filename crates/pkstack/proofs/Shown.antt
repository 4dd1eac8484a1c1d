-- How the view of the stack changes with its entries.
use Rattle.std.proofs.Common.{◌≡◌, ℕ, suc, ◌<◌, List, [], ◌∷◌, ◌++◌, length, take, drop, get_or}
use Rattle.std.proofs.Common.{Err, refl, ◌+◌, arith, length-drop}
use Rattle.std.proofs.Math.Seq.{take-suc, drop-cons}
use Rattle.pkstack.specs.declared.cells.Slot.{Slot}
use Rattle.pkstack.specs.declared.cells.Slot.TheVariants as slot
use Rattle.pkstack.specs.Shape.{NoItem, Entry, items}
use Rattle.pkstack.specs.Private.Slots.{entry_of, shown, values_of}

module _ {A : Type 0} where
  pub shown_append : (xs ys : List (Slot A)) (below : List (Entry A))
      → shown (xs ++ ys) below ≡ shown ys (shown xs below)
  shown_append [] ys below = refl
  shown_append (x ∷ xs) ys below = shown_append xs ys (entry_of x ∷ below)

  -- the topmost of the lowest entries
  pub shown_take : (xs : List (Slot A)) (m n : ℕ) (d x : Slot A) → m ≡ suc n → n < length xs
      → get_or xs n d ≡ x → shown (take m xs) [] ≡ entry_of x ∷ shown (take n xs) []
  shown_take xs m n d x is h e = rw (is, take-suc xs n d, e) (shown_append (take n xs) (x ∷ []) [])

  pub values_drop : (xs : List (Slot A)) (m n : ℕ) (d x : Slot A) → m ≡ suc n → n < length xs
      → get_or xs n d ≡ x → values_of (drop n xs) ≡ values_of (x ∷ drop m xs)
  values_drop xs m n d x is h e = rw (is, drop-cons xs n d, e) refl

  module _ (xs : List (Slot A)) (m n : ℕ) (d : Slot A) (is : m
      ≡ suc n) (h : n < length xs) where
    pub items_at_bar : (k : ℕ) (j : ℕ) → k ≡ suc j → get_or xs n d ≡ slot.Mark
        → items k (shown (take m xs) []) (values_of (drop m xs)) ≡ Err NoItem
    items_at_bar k j e g = rw (e, shown_take xs m n d slot.Mark is h g) refl

    pub items_at_object : (k j : ℕ) (v : A) → k ≡ suc j → get_or xs n d ≡ slot.Object v
        → items k (shown (take m xs) []) (values_of (drop m xs))
        ≡ items j (shown (take n xs) []) (values_of (drop n xs))
    items_at_object k j v e g =
        rw (
          e,
          shown_take xs m n d (slot.Object v) is h g,
          values_drop xs m n d (slot.Object v) is h g,
        ) refl

  pub starts_well : (xs : List (Slot A)) (n k : ℕ) → n + k ≡ length xs → length (drop n xs) ≡ k
  starts_well xs n k e = omega (arith, length-drop n xs)
