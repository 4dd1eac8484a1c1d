-- The positions of the marks on the stack.
use Rattle.std.proofs.Common.{◌≡◌, ℕ, zero, suc, ◌+◌, ◌-◌, ◌<◌, ◌≤◌, ◌⊎◌, inl, inr, List, [], ◌∷◌}
use Rattle.std.proofs.Common.{◌++◌, length, take, drop, get_or, Ok, Err, refl, sym, ap, ◌∙◌, arith}
use Rattle.std.proofs.Common.{append-nil, length-append, length-drop}
use Rattle.std.proofs.lemmas.List.{take-append-drop}
use Rattle.std.proofs.Math.Seq.{take-append_seam, take-suc}
use Rattle.std.specs.Prelude.{slice_get, Some, None}
use Rattle.pkstack.specs.declared.cells.Slot.{Slot}
use Rattle.pkstack.specs.declared.cells.Slot.TheVariants.{Mark, Object}
use Rattle.pkstack.specs.Shape.{Entry, Item, NoItem, NoMark, items, marks_of, slice}
use Rattle.pkstack.specs.Private.Slots.{AllObjects, IsCut, bars, entry_of, shown, values_of}
use Rattle.pkstack.proofs.Shown.{shown_append}

later : (k n : ℕ) (l : List ℕ) → slice_get l (length l - 1) ≡ Some n
    → slice_get (k ∷ l) (length (k ∷ l) - 1) ≡ Some n
later k n [] h = cc
later k n (m ∷ l) h = let e : length (k ∷ m ∷ l) - 1 ≡ suc (length (m ∷ l) - 1) = omega arith in
    rw e h

tail_cut : (k n j : ℕ) (l : List ℕ) → k < n → IsCut (k ∷ l) n (suc j) → IsCut l n j
tail_cut k n zero l lt c = record {
  within = omega arith;
  past = λ i h g. c.past (suc i) (omega (arith, h)) (omega (arith, g));
  before = λ h. absurd (omega (arith, h));
}
tail_cut k n (suc j) l lt c = record {
  within = (let h = c.within in omega (arith, h));
  past = λ i h g. c.past (suc i) (omega (arith, h)) (omega (arith, g));
  before = λ h. (let e : suc (suc j) - 1 ≡ suc (suc j - 1) = omega arith in
      rw e at c.before (omega arith));
}

module _ {A : Type 0} where
  pub bars_append : (xs ys : List (Slot A)) (k : ℕ)
      → bars k (xs ++ ys) ≡ bars k xs ++ bars (k + length xs) ys
  bars_append [] ys k = let e : k + 0 ≡ k = omega arith in rw e refl
  bars_append (Mark ∷ xs) ys k =
      let e : k + suc (length xs) ≡ suc k + length xs = omega arith in
      rw e (ap (λ l. k ∷ l) (bars_append xs ys (suc k)))
  bars_append (Object v ∷ xs) ys k =
      let e : k + suc (length xs) ≡ suc k + length xs = omega arith in
      rw e (bars_append xs ys (suc k))

  pub bars_pushed : (xs : List (Slot A)) (v : A) → bars 0 (xs ++ Object v ∷ []) ≡ bars 0 xs
  bars_pushed xs v = bars_append xs (Object v ∷ []) 0 ∙ append-nil (bars 0 xs)

  pub bars_marked : (xs : List (Slot A)) → bars 0 (xs ++ Mark ∷ []) ≡ bars 0 xs ++ length xs ∷ []
  bars_marked xs = let e : 0 + length xs ≡ length xs = omega arith in
      bars_append xs (Mark ∷ []) 0 ∙ rw e refl

  marks_over : (xs : List (Slot A)) (k : ℕ) (es : List (Entry A))
      → marks_of (shown xs es) ≡ length (bars k xs) + marks_of es
  marks_over [] k es = omega arith
  marks_over (Mark ∷ xs) k es =
      let h = marks_over xs (suc k) (entry_of Mark ∷ es) in omega (arith, h)
  marks_over (Object v ∷ xs) k es = marks_over xs (suc k) (Item v ∷ es)

  pub marks_shown : (xs : List (Slot A)) → length (bars 0 xs) ≡ marks_of (shown xs [])
  marks_shown xs = let h = marks_over xs 0 [] in omega (arith, h)

  -- ---- the topmost mark

  bars_objects : (xs : List (Slot A)) (k : ℕ) → AllObjects xs → bars k xs ≡ []
  bars_objects [] k h = refl
  bars_objects (Object v ∷ xs) k h = bars_objects xs (suc k) h
  bars_objects (Mark ∷ xs) k h = absurd h

  -- n is the position of the topmost mark
  pub record IsTopmost (xs : List (Slot A)) (n : ℕ) : Type 0 where
    pub within : n < length xs
    pub here : drop n xs ≡ Mark ∷ drop (suc n) xs
    pub above : AllObjects (drop (suc n) xs)

  last_of : (xs : List (Slot A)) (k : ℕ) → AllObjects xs
      ⊎ ((j : ℕ) × IsTopmost xs j × (slice_get (bars k xs) (length (bars k xs) - 1) ≡ Some (k + j)))
  last_of [] k = inl tt
  last_of (Object v ∷ xs) k =
      elim (last_of xs (suc k)) [
        | inl a ↦ inl a
        | inr b ↦ let e : suc k + b.0 ≡ k + suc b.0 = omega arith in let h = b.1.within in
            inr (
              suc b.0,
              record { within = omega (arith, h); here = b.1.here; above = b.1.above },
              b.2 ∙ ap Some e,
            )
      ]
  last_of (Mark ∷ xs) k =
      elim (last_of xs (suc k)) [
        | inl a ↦ let e : k ≡ k + 0 = omega arith in
            inr (
              zero,
              record { within = omega arith; here = refl; above = a },
              rw (bars_objects xs (suc k) a) (ap Some e),
            )
        | inr b ↦ let e : suc k + b.0 ≡ k + suc b.0 = omega arith in let h = b.1.within in
            inr (
              suc b.0,
              record { within = omega (arith, h); here = b.1.here; above = b.1.above },
              later k (k + suc b.0) (bars (suc k) xs) (b.2 ∙ ap Some e),
            )
      ]

  pub last_some : (xs : List (Slot A)) (n : ℕ)
      → Some n ≡ slice_get (bars 0 xs) (length (bars 0 xs) - 1) → IsTopmost xs n
  last_some xs n h =
      elim (last_of xs 0) [
        | inl a ↦ (let g = rw (bars_objects xs 0 a) at h in cc)
        | inr b ↦ (let g : Some n ≡ Some (0 + b.0) = h ∙ b.2 in let e' : n ≡ 0 + b.0 = cc in
            let e : n ≡ b.0 = omega arith in rw e b.1)
      ]

  pub last_none : (xs : List (Slot A)) → None ≡ slice_get (bars 0 xs) (length (bars 0 xs) - 1)
      → AllObjects xs
  last_none xs h =
      elim (last_of xs 0) [ inl a ↦ a | inr b ↦ (let g : None ≡ Some (0 + b.0) = h ∙ b.2 in cc) ]

  slice_over : (xs : List (Slot A)) (below : List (Entry A)) (acc : List A) → AllObjects xs
      → slice (shown xs below) acc ≡ slice below (values_of xs ++ acc)
  slice_over [] below acc h = refl
  slice_over (Object v ∷ xs) below acc h = slice_over xs (Item v ∷ below) acc h
  slice_over (Mark ∷ xs) below acc h = absurd h

  count_all : (xs : List (Slot A)) → AllObjects xs → length (values_of xs) ≡ length xs
  count_all [] h = refl
  count_all (Object v ∷ xs) h = ap suc (count_all xs h)
  count_all (Mark ∷ xs) h = absurd h

  pub no_slice : (xs : List (Slot A)) → AllObjects xs → slice (shown xs []) [] ≡ Err NoMark
  no_slice xs h = slice_over xs [] [] h

  divided : (n : ℕ) (xs : List (Slot A)) → shown xs [] ≡ shown (drop n xs) (shown (take n xs) [])
  divided n xs = ap (λ l. shown l []) (sym (take-append-drop n xs))
      ∙ shown_append (take n xs) (drop n xs) []

  pub slice_at : (xs : List (Slot A)) (n : ℕ) → IsTopmost xs n
      → slice (shown xs []) []
      ≡ Ok (record { operands = values_of (drop n xs); below = shown (take n xs) [] })
  slice_at xs n t =
      rw (divided n xs, t.here)
      (slice_over (drop (suc n) xs) (entry_of Mark ∷ shown (take n xs) []) [] t.above
      ∙ rw (append-nil (values_of (drop (suc n) xs))) refl)

  pub slice_count : (xs : List (Slot A)) (n : ℕ) → IsTopmost xs n
      → length (values_of (drop n xs)) + (n + 1) ≡ length xs
  slice_count xs n t =
      let e : length (values_of (drop n xs)) ≡ length (drop (suc n) xs) =
      rw t.here (count_all (drop (suc n) xs) t.above) in
      let h = t.within in
      omega (arith, e, h, length-drop (suc n) xs)

  -- ---- the topmost objects

  items_over : (ys : List (Slot A)) (n k : ℕ) (below : List (Entry A)) (above : List A)
      → AllObjects ys → n ≡ length ys + k → items n (shown ys below) above
      ≡ items k below (values_of ys ++ above)
  items_over [] n k below above h e = let f : n ≡ k = omega arith in rw f refl
  items_over (Object v ∷ ys) n k below above h e =
      items_over ys n (suc k) (Item v ∷ below) above h (omega (arith, e))
  items_over (Mark ∷ ys) n k below above h e = absurd h

  pub items_at : (xs : List (Slot A)) (n count : ℕ) → AllObjects (drop n xs)
      → n + count ≡ length xs
      → items count (shown xs []) []
      ≡ Ok (record { operands = values_of (drop n xs); below = shown (take n xs) [] })
  items_at xs n count h e = rw (divided n xs)
      (items_over (drop n xs) count 0 (shown (take n xs) []) [] h (omega (arith, length-drop n xs))
      ∙ rw (append-nil (values_of (drop n xs))) refl)

  -- a mark is among the topmost entries
  pub items_marked : (xs : List (Slot A)) (n count : ℕ) → IsTopmost xs n → length xs - n - 1 < count
      → items count (shown xs []) [] ≡ Err NoItem
  items_marked xs n count t h =
      let k = count - length (drop (suc n) xs) - 1 in
      let w = t.within in
      rw (divided n xs, t.here)
      (items_over (drop (suc n) xs) count (suc k) (entry_of Mark ∷ shown (take n xs) []) []
      t.above (omega (arith, w, length-drop (suc n) xs)))

  -- there are too few entries
  pub items_few : (xs : List (Slot A)) (count : ℕ) → AllObjects xs → length xs < count
      → items count (shown xs []) [] ≡ Err NoItem
  items_few xs count a h = let k = count - length xs - 1 in
      items_over xs count (suc k) [] [] a (omega arith)

  objects_drop : (xs : List (Slot A)) (m : ℕ) → AllObjects xs → AllObjects (drop m xs)
  objects_drop xs zero h = h
  objects_drop [] (suc m) h = tt
  objects_drop (Object v ∷ xs) (suc m) h = objects_drop xs m h
  objects_drop (Mark ∷ xs) (suc m) h = absurd h

  -- entries further up
  pub objects_above : (xs : List (Slot A)) (n m : ℕ) → n ≤ m → AllObjects (drop n xs)
      → AllObjects (drop m xs)
  objects_above xs zero m le h = objects_drop xs m h
  objects_above [] (suc n) m le h = objects_drop [] m tt
  objects_above (x ∷ xs) (suc n) zero le h = absurd (omega (arith, le))
  objects_above (x ∷ xs) (suc n) (suc m) le h = objects_above xs n m (omega (arith, le)) h

  -- ---- the marks below a place

  bars_split : (xs : List (Slot A)) (n : ℕ) → bars 0 xs ≡ bars 0 (take n xs)
      ++ bars (0 + length (take n xs)) (drop n xs)
  bars_split xs n =
      ap (bars 0) (sym (take-append-drop n xs)) ∙ bars_append (take n xs) (drop n xs) 0

  pub marks_kept : (xs : List (Slot A)) (n : ℕ) → AllObjects (drop n xs)
      → length (bars 0 (take n xs)) ≡ length (bars 0 xs)
  marks_kept xs n h = rw (
    bars_split xs n,
    bars_objects (drop n xs) (0 + length (take n xs)) h,
    append-nil (bars 0 (take n xs)),
  ) refl

  pub marks_slice : (xs : List (Slot A)) (n : ℕ) → IsTopmost xs n
      → length (bars 0 (take n xs)) + 1 ≡ length (bars 0 xs)
  marks_slice xs n t =
      let k = 0 + length (take n xs) in
      let e = length-append (bars 0 (take n xs)) (k ∷ []) in
      rw (bars_split xs n, t.here, bars_objects (drop (suc n) xs) (suc k) t.above)
      (omega (arith, e))

  -- one more entry, which is not a mark
  pub marks_over_object : (xs : List (Slot A)) (m n : ℕ) (d : Slot A) (v : A) → m ≡ suc n
      → n < length xs → get_or xs n d ≡ Object v → bars 0 (take m xs) ≡ bars 0 (take n xs)
  marks_over_object xs m n d v is h e = rw (is, take-suc xs n d, e) (bars_pushed (take n xs) v)

  -- the first m positions are those of the marks among the lowest n entries
  pub marks_cut : (xs : List (Slot A)) (l : List ℕ) (n m : ℕ) → l ≡ bars 0 xs
      → m ≡ length (bars 0 (take n xs)) → take m l ≡ bars 0 (take n xs)
  marks_cut xs l n m e f = rw (e, f, bars_split xs n)
      (take-append_seam (bars 0 (take n xs)) (bars (0 + length (take n xs)) (drop n xs)))

  bars_from : (xs : List (Slot A)) (k j : ℕ) → j < length (bars k xs) → k ≤ get_or (bars k xs) j 0
  bars_from [] k j h = absurd (omega (arith, h))
  bars_from (Mark ∷ xs) k zero h = omega arith
  bars_from (Mark ∷ xs) k (suc j) h = let g = bars_from xs (suc k) j (omega (arith, h)) in
      omega (arith, g)
  bars_from (Object v ∷ xs) k j h = let g = bars_from xs (suc k) j h in omega (arith, g)

  bars_below : (xs : List (Slot A)) (k n j : ℕ) → IsCut (bars k xs) (k + n) j
      → take j (bars k xs) ≡ bars k (take n xs)
  bars_below [] k n (suc j) c = let h = c.within in absurd (omega (arith, h))
  bars_below (x ∷ xs) k zero (suc j) c =
      let h = c.within in
      let g = c.before (omega arith) in
      let f = bars_from (x ∷ xs) k (suc j - 1) (omega (arith, h)) in
      absurd (omega (arith, f, g))
  bars_below (Mark ∷ xs) k (suc n) zero c = let g = c.past 0 (omega arith) (omega arith) in
      absurd (omega (arith, g))
  bars_below (Mark ∷ xs) k (suc n) (suc j) c =
      let e : k + suc n ≡ suc k + n = omega arith in
      let t = tail_cut k (k + suc n) j (bars (suc k) xs) (omega arith) c in
      ap (λ l. k ∷ l) (bars_below xs (suc k) n j (rw e at t))
  bars_below (Object v ∷ xs) k (suc n) j c =
      let e : k + suc n ≡ suc k + n = omega arith in
      bars_below xs (suc k) n j (rw e at c)
  bars_below [] k (suc n) zero c = refl
  bars_below _ k zero zero c = refl

  pub cut_below : (xs : List (Slot A)) (l : List ℕ) (n j : ℕ) → l ≡ bars 0 xs → IsCut l n j
      → take j l ≡ bars 0 (take n xs)
  cut_below xs l n j e c =
      let z : 0 + n ≡ n = omega arith in
      rw e (bars_below xs 0 n j (rw z (rw e at c)))
