-- Places on the stack and its marks, in terms of the entries of the store.
use Rattle.std.proofs.Common.{◌≡◌, ℕ, zero, suc, ◌+◌, ◌-◌, ◌<◌, List, [], ◌∷◌, ◌++◌, length, take}
use Rattle.std.proofs.Common.{drop, Ok, refl, sym, subst, ap, ◌∙◌, arith, add-one, append-nil}
use Rattle.std.proofs.Common.{length-drop, Option, Some, None, Err, MatchOption}
use Rattle.std.proofs.lemmas.List.{append_assoc, take-append-drop}
use Rattle.std.proofs.Math.Seq.{drop-append_seam, take-append_seam}
use Rattle.pkstack.specs.declared.cells.Slot.{Slot}
use Rattle.pkstack.specs.declared.cells.Slot.TheVariants as slot
use Rattle.pkstack.specs.declared.takes.Takes.{Takes}
use Rattle.pkstack.specs.declared.takes.Takes.TheVariants.{Objects, SliceAndReceiver}
use Rattle.pkstack.specs.Shape.{Entry, Mark, Item, NoItem, front, items, marks_of, operands}
use Rattle.pkstack.specs.Places.{IsFew, ItemsFrom, below, above, from_bottom, HasFirst}
use Rattle.pkstack.specs.Private.Slots.{AllObjects, FirstObject, StartsWell, bars, entry_of, shown}
use Rattle.pkstack.specs.Private.Slots.{values_of}
use Rattle.pkstack.proofs.Shown.{shown_append, starts_well}
use Rattle.pkstack.proofs.Bars.{items_at, marks_kept, marks_shown}
use Rattle.pkstack.proofs.Limited.{length_shown}

module _ {A : Type 0} where
  shown_over : (xs : List (Slot A)) (es : List (Entry A)) → shown xs es ≡ shown xs [] ++ es
  shown_over [] es = refl
  shown_over (x ∷ xs) es =
      rw (shown_over xs (entry_of x ∷ es), shown_over xs (entry_of x ∷ []), append_assoc) refl

  -- the entries from a place on, and those below it
  divided : (n : ℕ) (xs : List (Slot A)) → shown xs []
      ≡ shown (drop n xs) [] ++ shown (take n xs) []
  divided n xs = ap (λ l. shown l []) (sym (take-append-drop n xs))
      ∙ shown_append (take n xs) (drop n xs) [] ∙ shown_over (drop n xs) (shown (take n xs) [])

  how_many : (n : ℕ) (xs : List (Slot A)) → length (shown xs []) - n ≡ length (shown (drop n xs) [])
  how_many n xs = rw (length_shown xs, length_shown (drop n xs), length-drop n xs) refl

  pub below_shown : (n : ℕ) (xs : List (Slot A)) → below n (shown xs []) ≡ shown (take n xs) []
  below_shown n xs =
      ap (λ k. drop k (shown xs [])) (how_many n xs)
      ∙ ap (drop (length (shown (drop n xs) []))) (divided n xs)
      ∙ drop-append_seam (shown (drop n xs) []) (shown (take n xs) [])

  from_bottom_shown : (xs : List (Slot A)) (es : List (Entry A)) (ks : List A)
      → from_bottom (shown xs es) ks ≡ from_bottom es (values_of xs ++ ks)
  from_bottom_shown [] es ks = refl
  from_bottom_shown (slot.Mark ∷ xs) es ks = from_bottom_shown xs (Mark ∷ es) ks
  from_bottom_shown (slot.Object v ∷ xs) es ks = from_bottom_shown xs (Item v ∷ es) ks

  pub above_shown : (n : ℕ) (xs : List (Slot A)) → above n (shown xs []) ≡ values_of (drop n xs)
  above_shown n xs =
      ap (λ k. from_bottom (take k (shown xs [])) []) (how_many n xs)
      ∙ ap (λ es. from_bottom (take (length (shown (drop n xs) [])) es) []) (divided n xs)
      ∙ ap (λ es. from_bottom es [])
      (take-append_seam (shown (drop n xs) []) (shown (take n xs) []))
      ∙ from_bottom_shown (drop n xs) [] []
      ∙ append-nil (values_of (drop n xs))

  -- the first object from a place on
  left_first : (ss : List (Slot A)) (below : List (Entry A)) → FirstObject ss
      → shown (take 1 ss) below ≡ front (values_of ss) ++ below
  left_first (slot.Object v ∷ ss) below h = refl
  left_first _ below h = absurd h

  left_is : (xs : List (Slot A)) (n : ℕ) (below : List (Entry A)) → FirstObject (drop n xs)
      → shown (take (suc n) xs) below ≡ front (values_of (drop n xs)) ++ shown (take n xs) below
  left_is xs zero below h = left_first xs below h
  left_is (x ∷ xs) (suc n) below h = left_is xs n (entry_of x ∷ below) h
  left_is [] (suc n) below h = absurd h

  has_object : (takes : Takes) (xs : List (Slot A)) → HasFirst takes → StartsWell takes xs
      → FirstObject xs
  has_object (Objects k) [] h w = let e = w.0 in absurd (omega (arith, h, e))
  has_object (Objects k) (slot.Object v ∷ xs) h w = tt
  has_object (SliceAndReceiver rule) xs h w = w
  has_object _ _ h w = absurd (assumption)

  object_there : (xs : List (Slot A)) (n : ℕ) → FirstObject (drop n xs) → n < length xs
  object_there (x ∷ xs) zero h = omega arith
  object_there (x ∷ xs) (suc n) h = let g = object_there xs n h in omega (arith, g)
  object_there [] zero h = absurd h
  object_there [] (suc n) h = absurd h

  pub first_there : (takes : Takes) (n : ℕ) (xs : List (Slot A)) → HasFirst takes
      → StartsWell takes (drop n xs) → n < length (shown xs [])
  first_there takes n xs h w =
      let there = object_there xs n (has_object takes (drop n xs) h w) in
      omega (arith, there, length_shown xs)

  pub first_left : (takes : Takes) (n : ℕ) (xs : List (Slot A)) → HasFirst takes
      → StartsWell takes (drop n xs) → below (n + 1) (shown xs []) ≡ front (above n (shown xs []))
      ++ below n (shown xs [])
  first_left takes n xs h w =
      rw (below_shown (n + 1) xs, above_shown n xs, below_shown n xs, add-one)
      (left_is xs n [] (has_object takes (drop n xs) h w))

  -- the topmost entry and the rest
  pub one_more : (es : List (Entry A)) → 0 < length es
      → (e : Entry A) × (es ≡ e ∷ below (length es - 1) es)
  one_more (e ∷ es) h =
      (e, let k : length (e ∷ es) - (length (e ∷ es) - 1) ≡ 1 = omega arith in rw k refl)
  one_more [] h = absurd (omega arith)

  -- ---- the parts of the stack, in terms of the entries of the store

  pub how_long : (xs : List (Slot A)) (es : List (Entry A)) → shown xs [] ≡ es
      → length es ≡ length xs
  how_long xs es is = sym (ap length is) ∙ length_shown xs

  pub found_at : (takes : Takes) (n : ℕ) (xs : List (Slot A)) (es : List (Entry A))
      → shown xs [] ≡ es
      → operands takes (shown xs [])
      ≡ Ok (record { operands = values_of (drop n xs); below = shown (take n xs) [] })
      → operands takes es ≡ Ok (record { operands = above n es; below = below n es })
  found_at takes n xs es is h = subst
      (λ fs. operands takes fs ≡ Ok (record { operands = above n fs; below = below n fs })) is
      (h
      ∙ (λ i. Ok
      (record { operands = sym (above_shown n xs) i; below = sym (below_shown n xs) i })))

  pub below_marks : (n : ℕ) (xs : List (Slot A)) → length (bars 0 (take n xs))
      ≡ marks_of (below n (shown xs []))
  below_marks n xs = rw (below_shown n xs) (marks_shown (take n xs))

  -- ---- the topmost objects

  objects_shown : (count n : ℕ) (xs : List (Slot A)) → n + count ≡ length xs
      → AllObjects (drop n xs) → ItemsFrom count n (shown xs [])
  objects_shown count n xs long all = record {
    found = found_at (Objects count) n xs (shown xs []) refl (items_at xs n count all long);
    marks = sym (marks_shown xs) ∙ sym (marks_kept xs n all) ∙ below_marks n xs;
    there = λ h. omega (arith, h, long, length_shown xs);
    first = λ h. first_left (Objects count) n xs h (starts_well xs n count long, all);
  }

  pub objects_from : (count n : ℕ) (xs : List (Slot A)) (es : List (Entry A)) → shown xs [] ≡ es
      → n + count ≡ length xs → AllObjects (drop n xs) → ItemsFrom count n es
  objects_from count n xs es is long all =
      subst (ItemsFrom count n) is (objects_shown count n xs long all)

  -- the topmost one, two or three objects, as a search finds them
  pub few_from : (count : ℕ) (found : Option ℕ) (xs : List (Slot A))
      (es : List (Entry A)) → shown xs [] ≡ es
      → MatchOption found (IsFew count → items count (shown xs []) [] ≡ Err NoItem)
      (λ n. IsFew count × (n + count ≡ length xs) × AllObjects (drop n xs))
      → MatchOption found (IsFew count → items count es [] ≡ Err NoItem)
      (λ n. IsFew count × ItemsFrom count n es)
  few_from count None xs es is h =
      λ few. subst (λ fs. items count fs [] ≡ Err NoItem) is (h few)
  few_from count (Some n) xs es is h = (h.0, objects_from count n xs es is h.1 h.2)
