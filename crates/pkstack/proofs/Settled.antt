-- Counts of the objects among the entries, and what a slice of so many objects breaks.
use Rattle.std.specs.List.{slice_get}
use Rattle.std.proofs.Common.{◌≡◌, ℕ, zero, suc, Some, ◌+◌, ◌%◌, ◌<◌, not, eqb, List, [], ◌∷◌, ◌++◌}
use Rattle.std.proofs.Common.{length, take, get_or, refl, sym, ap, ◌∙◌, arith, add-one, append-nil}
use Rattle.std.proofs.Common.{length-append}
use Rattle.std.proofs.Math.Seq.{take-suc}
use Rattle.std.proofs.lemmas.Bool.Decides.{nat_tests}
use Rattle.pkstack.specs.declared.cells.Slot.{Slot}
use Rattle.pkstack.specs.declared.cells.Slot.TheVariants as slot
use Rattle.pkstack.specs.declared.takes.SliceRule.{SliceRule}
use Rattle.pkstack.specs.declared.takes.SliceRule.TheVariants.{AnySlice, EvenSlice, FullSlice}
use Rattle.pkstack.specs.Shape.{breaks, is_even}
use Rattle.pkstack.specs.Private.Slots.{breach_of, values_of}

parity : (n : ℕ) → eqb (suc n % 2) 0 ≡ not (eqb (n % 2) 0)
parity n = grind (arith, nat_tests)

module _ {A : Type 0} where
  pub values_append : (xs ys : List (Slot A)) → values_of (xs ++ ys) ≡ values_of xs ++ values_of ys
  values_append [] ys = refl
  values_append (slot.Mark ∷ xs) ys = values_append xs ys
  values_append (slot.Object v ∷ xs) ys = ap (λ l. v ∷ l) (values_append xs ys)

  is_even_length : (xs : List A) → is_even xs ≡ eqb (length xs % 2) 0
  is_even_length [] = refl
  is_even_length (x ∷ xs) = ap not (is_even_length xs) ∙ sym (parity (length xs))

  pub breaks_by_count : (rule : SliceRule) (xs : List A) (n : ℕ) → length xs ≡ n
      → breaks rule xs ≡ breach_of rule n
  breaks_by_count AnySlice xs n e = refl
  breaks_by_count EvenSlice xs n e = rw (is_even_length xs, e) refl
  breaks_by_count FullSlice [] n e = rw (← e) refl
  breaks_by_count FullSlice (x ∷ xs) n e = rw (← e) refl

  pub count_bar : (xs : List (Slot A)) (n : ℕ) (d : Slot A) → n < length xs
      → get_or xs n d ≡ slot.Mark
      → length (values_of (take (n + 1) xs)) ≡ length (values_of (take n xs))
  count_bar xs n d h e =
      rw (add-one, take-suc xs n d, e, values_append (take n xs) (slot.Mark ∷ []), append-nil) refl

  pub count_object : (xs : List (Slot A)) (n : ℕ) (d : Slot A) (v : A) → n < length xs
      → get_or xs n d ≡ slot.Object v → length (values_of (take (n + 1) xs))
      ≡ length (values_of (take n xs)) + 1
  count_object xs n d v h e =
      rw (
        add-one,
        take-suc xs n d,
        e,
        values_append (take n xs) (slot.Object v ∷ []),
        length-append (values_of (take n xs)) (v ∷ []),
      ) refl

  -- the index of an object is the number of objects before it
  pub object_at : (xs : List (Slot A)) (n : ℕ) (d : Slot A) (v : A) → n < length xs
      → get_or xs n d ≡ slot.Object v → slice_get (values_of xs) (length (values_of (take n xs)))
      ≡ Some v
  object_at (x ∷ xs) zero d v h e = rw e refl
  object_at (slot.Mark ∷ xs) (suc n) d v h e = object_at xs n d v (omega (arith, h)) e
  object_at (slot.Object w ∷ xs) (suc n) d v h e = object_at xs n d v (omega (arith, h)) e
  object_at [] n d v h e = absurd (omega (arith, h))

  pub both : (ks : List A) (j k : A) → length ks ≡ 2 → slice_get ks 0 ≡ Some j
      → slice_get ks 1 ≡ Some k → ks ≡ j ∷ k ∷ []
  both (x ∷ y ∷ []) j k h e f = cc
  both _ j k h e f = absurd (omega (arith, h))
