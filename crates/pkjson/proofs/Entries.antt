-- The entries and numbers that slots show.
use Rattle.std.proofs.Common.{◌≡◌, ℕ, suc, zero, ◌+◌, ◌-◌, ◌<◌, List, [], ◌∷◌, ◌++◌, length, take}
use Rattle.std.proofs.Common.{drop, get_or, refl, sym, ap, ◌∙◌, Ok, Err, drop-cons, arith}
use Rattle.std.proofs.Common.{length-drop, append_assoc, Result}
use Rattle.std.proofs.Math.ListN.{set}
use Rattle.std.proofs.Math.Seq.{take-suc, take-length}
use Rattle.std.proofs.lemmas.List.{map-append, take_more}
use Rattle.pkstack.specs.Shape.{Breach, Entry, Shape, NoMark, NoItem, Taken, and_then, items, slice}
use Rattle.pkstack.specs.Shape.{top, popped}
use Rattle.pkjson.specs.declared.objects.Object.{Object}
use Rattle.pkjson.specs.declared.slots.Slot.{Slot}
use Rattle.pkjson.specs.declared.slots.Slot.TheVariants as slot
use Rattle.pkjson.specs.Private.Arena.{update, more_given}
use Rattle.pkjson.specs.Private.Seen.{kept_of, kept_all, seen_entry, seen_entries, numbers_of}
use Rattle.pkjson.specs.Private.Seen.{taken_at}

pub shown_append : (xs ys : List Slot) (below : List (Entry ℕ))
    → seen_entries (xs ++ ys) below ≡ seen_entries ys (seen_entries xs below)
shown_append [] ys below = refl
shown_append (x ∷ xs) ys below = shown_append xs ys (seen_entry x ∷ below)

pub numbers_append : (xs ys : List Slot) → numbers_of (xs ++ ys) ≡ numbers_of xs ++ numbers_of ys
numbers_append [] ys = refl
numbers_append (slot.Mark ∷ xs) ys = numbers_append xs ys
numbers_append (slot.Object n ∷ xs) ys = ap (λ l. n ∷ l) (numbers_append xs ys)

pub numbers_next : (before found : List ℕ) (xs : List Slot) (n : ℕ) (d : Slot) → n < length xs
    → found ≡ before ++ numbers_of (take n xs) → found ++ numbers_of (get_or xs n d ∷ []) ≡ before
    ++ numbers_of (take (n + 1) xs)
numbers_next before found xs n d h e =
    ap (λ l. l ++ numbers_of (get_or xs n d ∷ [])) e
    ∙ append_assoc before (numbers_of (take n xs)) (numbers_of (get_or xs n d ∷ []))
    ∙ ap (λ l. before ++ l)
    (sym (ap numbers_of (take_more xs n d h) ∙ numbers_append (take n xs) (get_or xs n d ∷ [])))

pub kept_append : (xs : List Object) (o : Object)
    → kept_all (xs ++ o ∷ []) ≡ kept_all xs ++ kept_of o ∷ []
kept_append xs o = map-append kept_of xs (o ∷ [])

pub kept_set : (xs : List Object) (r : ℕ) (d o : Object) (more : List ℕ) → r < length xs
    → kept_of o ≡ more_given more (kept_of (get_or xs r d))
    → kept_all (set xs r o) ≡ update (kept_all xs) r (more_given more)
kept_set [] r d o more h e = absurd (omega arith)
kept_set (x ∷ xs) zero d o more h e = ap (λ k. k ∷ kept_all xs) e
kept_set (x ∷ xs) (suc r) d o more h e = ap (λ l. kept_of x ∷ l)
    (kept_set xs r d o more (omega arith) e)

pub all_after : {A : Type 0} (xs : List A) (n : ℕ) → take (length xs - n) (drop n xs) ≡ drop n xs
all_after xs n = ap (λ k. take k (drop n xs)) (sym (length-drop n xs)) ∙ take-length (drop n xs)

-- at the entry below a place
module _ (xs : List Slot) (m n : ℕ) (d : Slot) (is : m ≡ suc n) (h : n < length xs) where
  pub shown_take : (x : Slot) → get_or xs n d ≡ x
      → seen_entries (take m xs) [] ≡ seen_entry x ∷ seen_entries (take n xs) []
  shown_take x e = rw (is, take-suc xs n d, e) (shown_append (take n xs) (x ∷ []) [])

  pub numbers_drop : (x : Slot) → get_or xs n d ≡ x
      → numbers_of (drop n xs) ≡ numbers_of (x ∷ drop m xs)
  numbers_drop x e = rw (is, drop-cons xs n d, e) refl

  pub items_at_mark : (k j : ℕ) → k ≡ suc j → get_or xs n d ≡ slot.Mark
      → items k (seen_entries (take m xs) []) (numbers_of (drop m xs)) ≡ Err NoItem
  items_at_mark k j e g = rw (e, shown_take slot.Mark g) refl

  pub items_at_object : (k j v : ℕ) → k ≡ suc j → get_or xs n d ≡ slot.Object v
      → items k (seen_entries (take m xs) []) (numbers_of (drop m xs))
      ≡ items j (seen_entries (take n xs) []) (numbers_of (drop n xs))
  items_at_object k j v e g = rw (e, shown_take (slot.Object v) g, numbers_drop (slot.Object v) g)
      refl

  pub slice_at_mark : get_or xs n d ≡ slot.Mark
      → slice (seen_entries (take m xs) []) (numbers_of (drop m xs)) ≡ Ok (taken_at n xs)
  slice_at_mark g = rw (shown_take slot.Mark g, numbers_drop slot.Mark g) refl

  pub slice_at_object : (v : ℕ) → get_or xs n d ≡ slot.Object v
      → slice (seen_entries (take m xs) []) (numbers_of (drop m xs))
      ≡ slice (seen_entries (take n xs) []) (numbers_of (drop n xs))
  slice_at_object v g = rw (shown_take (slot.Object v) g, numbers_drop (slot.Object v) g) refl

  pub receiver_at_mark : (x : Result (Taken ℕ) Breach) → x ≡ Ok (taken_at m xs)
      → get_or xs n d ≡ slot.Mark → and_then x (λ t. items 1 t.below t.operands) ≡ Err NoItem
  receiver_at_mark x e g = rw (e, shown_take slot.Mark g) refl

  pub receiver_at_object : (x : Result (Taken ℕ) Breach) (v : ℕ) → x ≡ Ok (taken_at m xs)
      → get_or xs n d ≡ slot.Object v → and_then x (λ t. items 1 t.below t.operands)
      ≡ Ok (record { operands = v ∷ numbers_of (drop m xs); below = seen_entries (take n xs) [] })
  receiver_at_object x v e g = rw (e, shown_take (slot.Object v) g) refl

pub items_at_bottom : (xs : List Slot) (m k j : ℕ) → m ≡ 0 → k ≡ suc j
    → items k (seen_entries (take m xs) []) (numbers_of (drop m xs)) ≡ Err NoItem
items_at_bottom xs m k j e g = rw (g, e) refl

pub items_done : (xs : List Slot) (m k : ℕ) → k ≡ 0
    → items k (seen_entries (take m xs) []) (numbers_of (drop m xs)) ≡ Ok (taken_at m xs)
items_done xs m k e = rw e refl

pub slice_at_bottom : (xs : List Slot) (m : ℕ) → m ≡ 0
    → slice (seen_entries (take m xs) []) (numbers_of (drop m xs)) ≡ Err NoMark
slice_at_bottom xs m e = rw e refl

pub receiver_at_bottom : (xs : List Slot) (m : ℕ) (x : Result (Taken ℕ) Breach)
    → x ≡ Ok (taken_at m xs) → m ≡ 0 → and_then x (λ t. items 1 t.below t.operands) ≡ Err NoItem
receiver_at_bottom xs m x e g = rw (e, g) refl

module _ (xs : List Slot) (h : 0 < length xs) where
  pub shown_last : (d x : Slot) → get_or xs (length xs - 1) d ≡ x
      → seen_entries xs [] ≡ seen_entry x ∷ seen_entries (take (length xs - 1) xs) []
  shown_last d x e = ap (λ l. seen_entries l []) (sym (take-length xs))
      ∙ shown_take xs (length xs) (length xs - 1) d (omega (arith, h)) (omega (arith, h)) x e

  pub top_mark : (d : Slot) → get_or xs (length xs - 1) d ≡ slot.Mark
      → top (seen_entries xs []) ≡ Err NoItem
  top_mark d e = ap top (shown_last d slot.Mark e)

  pub top_object : (d : Slot) (v : ℕ) → get_or xs (length xs - 1) d ≡ slot.Object v
      → top (seen_entries xs []) ≡ Ok (v, drop 1 (seen_entries xs []))
  top_object d v e = rw (shown_last d (slot.Object v) e) refl

  pub popped_last : (g : Shape ℕ) → popped (seen_entries xs []) g
      ≡ Ok (record g { entries = seen_entries (take (length xs - 1) xs) [] })
  popped_last g = by_last (get_or xs (length xs - 1) slot.Mark) refl
    where
      by_last : (x : Slot) → get_or xs (length xs - 1) slot.Mark ≡ x
          → popped (seen_entries xs []) g
          ≡ Ok (record g { entries = seen_entries (take (length xs - 1) xs) [] })
      by_last x e = ap (λ l. popped l g) (shown_last slot.Mark x e)
