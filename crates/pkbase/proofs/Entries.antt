-- Look-ups and insertions in entries that stand in parts, one behind the other.
use Rattle.std.proofs.Common.{◌≡◌, ℕ, zero, suc, ◌+◌, ◌<◌, ◌≤◌, cond, List, [], ◌∷◌, ◌++◌, length}
use Rattle.std.proofs.Common.{get_or, Option, Some, None, refl, sym, ap, ◌∙◌, arith, append-nil}
use Rattle.std.proofs.Common.{length-append}
use Rattle.std.proofs.Math.ListN.{set}
use Rattle.std.proofs.lemmas.List.Elements.{All-cons, All-head, All-nil, All-tail, All-weaker}
use Rattle.std.proofs.lemmas.List.FromFn.{length-enumerate_from}
use Rattle.std.proofs.lemmas.List.{nil_from_length}
use Rattle.std.specs.BTreeMap.{insert_entry, is_at}
use Rattle.std.specs.Cmp.{nat_cmp_is}
use Rattle.std.specs.declared.cmp.Ordering.TheVariants.{Less, Equal, Greater}
use Rattle.std.specs.List.{All, AllByRecursion, enumerate_from}
use Rattle.std.specs.List.Sorted.{IsStrictlySortedBy}
use Rattle.std.specs.Map.{keys_of, lookup}
use Rattle.std.specs.Ordering.{nat_cmp, is_eq, match_ordering}
use Rattle.pkbase.specs.Parts.{AreParts}

equal_cmp : (n k : ℕ) → n ≡ k → nat_cmp n k ≡ Equal
equal_cmp n k e = sym (nat_cmp_is n k Equal e)

above_cmp : (n k : ℕ) → k < n → nat_cmp n k ≡ Greater
above_cmp n k h = sym (nat_cmp_is n k Greater h)

below_cmp : (n k : ℕ) → n < k → nat_cmp n k ≡ Less
below_cmp n k h = sym (nat_cmp_is n k Less h)

-- numbers that are all greater, as a sorted list says it
each_less : (ks : List ℕ) (n : ℕ) → All (λ q. n < q) ks
    → AllByRecursion (λ q. nat_cmp n q ≡ Less) ks
each_less [] n h = tt
each_less (k ∷ ks) n h = (
  below_cmp n k (All-head (λ q. n < q) k ks h),
  each_less ks n (All-tail (λ q. n < q) k ks h),
)

module _ {A : Type 0} where
  -- the value of a number
  abbrev pub at : ℕ → List (ℕ × A) → Option A
  at n es = lookup (is_at (nat_cmp n)) es

  -- all numbers are below this one, or above it
  abbrev Below : ℕ → List (ℕ × A) → Type 0
  Below n es = All (λ q. q < n) (keys_of es)

  abbrev Above : ℕ → List (ℕ × A) → Type 0
  Above n es = All (λ q. n < q) (keys_of es)

  -- ---- behind entries of lower numbers

  at-append_below : (low es : List (ℕ × A)) (n : ℕ) → Below n low
      → at n (low ++ es) ≡ at n es
  at-append_below [] es n h = refl
  at-append_below (e ∷ low) es n h =
      rw (above_cmp n e.0 (All-head (λ q. q < n) e.0 (keys_of low) h))
      (at-append_below low es n (All-tail (λ q. q < n) e.0 (keys_of low) h))

  insert_entry-append_below : (low es : List (ℕ × A)) (n : ℕ) (v : A)
      → Below n low
      → insert_entry nat_cmp (low ++ es) n v ≡ low ++ insert_entry nat_cmp es n v
  insert_entry-append_below [] es n v h = refl
  insert_entry-append_below (e ∷ low) es n v h =
      rw (above_cmp n e.0 (All-head (λ q. q < n) e.0 (keys_of low) h))
      (ap (λ l. e ∷ l)
      (insert_entry-append_below low es n v (All-tail (λ q. q < n) e.0 (keys_of low) h)))

  -- ---- before entries of greater numbers

  at_none : (es : List (ℕ × A)) (n : ℕ) → Above n es → at n es ≡ None
  at_none [] n h = refl
  at_none (e ∷ es) n h =
      rw (below_cmp n e.0 (All-head (λ q. n < q) e.0 (keys_of es) h))
      (at_none es n (All-tail (λ q. n < q) e.0 (keys_of es) h))

  at-append_above : (low es : List (ℕ × A)) (n : ℕ) → Above n es
      → at n (low ++ es) ≡ at n low
  at-append_above [] es n h = at_none es n h
  at-append_above (e ∷ low) es n h = ap (λ r. cond (is_eq (nat_cmp n e.0)) (Some e.1) r)
      (at-append_above low es n h)

  insert_entry-front : (es : List (ℕ × A)) (n : ℕ) (v : A) → Above n es
      → insert_entry nat_cmp es n v ≡ (n, v) ∷ es
  insert_entry-front [] n v h = refl
  insert_entry-front (e ∷ es) n v h =
      rw (below_cmp n e.0 (All-head (λ q. n < q) e.0 (keys_of es) h)) refl

  insert_entry-append_above : (low es : List (ℕ × A)) (n : ℕ) (v : A)
      → Above n es
      → insert_entry nat_cmp (low ++ es) n v ≡ insert_entry nat_cmp low n v ++ es
  insert_entry-append_above [] es n v h = insert_entry-front es n v h
  insert_entry-append_above (e ∷ low) es n v h =
      elim (nat_cmp n e.0) as (λ o. match_ordering o ((n, v) ∷ e ∷ (low ++ es))
      ((e.0, v) ∷ (low ++ es)) (e ∷ insert_entry nat_cmp (low ++ es) n v)
      ≡ match_ordering o ((n, v) ∷ e ∷ low) ((e.0, v) ∷ low) (e ∷ insert_entry nat_cmp low n v)
      ++ es) [
        | Less ↦ refl
        | Equal ↦ refl
        | Greater ↦ ap (λ l. e ∷ l) (insert_entry-append_above low es n v h)
      ]

  -- ---- values in order

  keys_below : (xs : List A) (k n : ℕ) → k + length xs ≤ n
      → Below n (enumerate_from k xs)
  keys_below [] k n h = All-nil (λ q. q < n)
  keys_below (x ∷ xs) k n h =
      All-cons (λ q. q < n) k (keys_of (enumerate_from (k + 1) xs)) (omega arith)
      (keys_below xs (k + 1) n (omega arith))

  keys_above : (xs : List A) (es : List (ℕ × A)) (k n : ℕ) → n < k
      → Above n es → Above n (enumerate_from k xs ++ es)
  keys_above [] es k n h above = above
  keys_above (x ∷ xs) es k n h above =
      All-cons (λ q. n < q) k (keys_of (enumerate_from (k + 1) xs ++ es)) h
      (keys_above xs es (k + 1) n (omega arith) above)

  at-enumerate_from : (xs : List A) (es : List (ℕ × A)) (k j n : ℕ) (d : A) → n ≡ k + j
      → j < length xs → at n (enumerate_from k xs ++ es) ≡ Some (get_or xs j d)
  at-enumerate_from (x ∷ xs) es k zero n d e h = rw (equal_cmp n k (omega arith)) refl
  at-enumerate_from (x ∷ xs) es k (suc j) n d e h = rw (above_cmp n k (omega arith))
      (at-enumerate_from xs es (k + 1) j n d (omega arith) (omega arith))
  at-enumerate_from [] es k j n d e h = absurd (omega arith)

  insert_entry-enumerate_from : (xs : List A) (es : List (ℕ × A)) (k j n : ℕ) (v : A)
      → n ≡ k + j → j < length xs → insert_entry nat_cmp (enumerate_from k xs ++ es) n v
      ≡ enumerate_from k (set xs j v) ++ es
  insert_entry-enumerate_from (x ∷ xs) es k zero n v e h = rw (equal_cmp n k (omega arith)) refl
  insert_entry-enumerate_from (x ∷ xs) es k (suc j) n v e h = rw (above_cmp n k (omega arith))
      (ap (λ l. (k, x) ∷ l)
      (insert_entry-enumerate_from xs es (k + 1) j n v (omega arith) (omega arith)))
  insert_entry-enumerate_from [] es k j n v e h = absurd (omega arith)

  enumerate_from-push : (xs : List A) (k n : ℕ) (v : A) → n ≡ k + length xs
      → enumerate_from k (xs ++ v ∷ []) ≡ enumerate_from k xs ++ (n, v) ∷ []
  enumerate_from-push [] k n v e = let same : n ≡ k = omega arith in rw same refl
  enumerate_from-push (x ∷ xs) k n v e =
      ap (λ l. (k, x) ∷ l) (enumerate_from-push xs (k + 1) n v (omega arith))

  -- ---- rising numbers

  each_append : (P : ℕ → Type 0) (low es : List (ℕ × A)) → AllByRecursion P (keys_of low)
      → AllByRecursion P (keys_of es) → AllByRecursion P (keys_of (low ++ es))
  each_append P [] es h k = k
  each_append P (e ∷ low) es h k = (h.0, each_append P low es h.1 k)

  rising-append : (low es : List (ℕ × A)) (first : ℕ) → Below first low
      → ((n : ℕ) → n < first → Above n es)
      → IsStrictlySortedBy nat_cmp (keys_of low) → IsStrictlySortedBy nat_cmp (keys_of es)
      → IsStrictlySortedBy nat_cmp (keys_of (low ++ es))
  unfolding IsStrictlySortedBy
  rising-append [] es first b a s t = t
  rising-append (e ∷ low) es first b a s t = (
    each_append (λ q. nat_cmp e.0 q ≡ Less) low es s.0
        (each_less (keys_of es) e.0 (a e.0 (All-head (λ q. q < first) e.0 (keys_of low) b))),
    rising-append low es first (All-tail (λ q. q < first) e.0 (keys_of low) b) a s.1 t,
  )

  rising-enumerate_from : (xs : List A) (es : List (ℕ × A)) (k : ℕ)
      → All (λ q. k + length xs ≤ q) (keys_of es) → IsStrictlySortedBy nat_cmp (keys_of es)
      → IsStrictlySortedBy nat_cmp (keys_of (enumerate_from k xs ++ es))
  unfolding IsStrictlySortedBy
  rising-enumerate_from [] es k a s = s
  rising-enumerate_from (x ∷ xs) es k a s = (
    each_less (keys_of (enumerate_from (k + 1) xs ++ es)) k
        (keys_above xs es (k + 1) k (omega arith)
        (All-weaker (λ q. k + length (x ∷ xs) ≤ q) (λ q. k < q) (λ q h. omega (arith, h))
        (keys_of es) a)),
    rising-enumerate_from xs es (k + 1)
        (All-weaker (λ q. k + length (x ∷ xs) ≤ q) (λ q. k + 1 + length xs ≤ q)
        (λ q h. omega (arith, h)) (keys_of es) a) s,
  )

  -- ---- all parts

  abbrev pub entries : List (ℕ × A) → ℕ → List A → List (ℕ × A) → List (ℕ × A)
  entries low first xs rest = low ++ (enumerate_from first xs ++ rest)

  module _ (low : List (ℕ × A)) (first : ℕ) (xs : List A) (rest : List (ℕ × A)) where
    pub length-entries : length (entries low first xs rest) ≡ length low + length xs + length rest
    length-entries = omega (
      arith,
      length-append low (enumerate_from first xs ++ rest),
      length-append (enumerate_from first xs) rest,
      length-enumerate_from first xs,
    )

    pub no_entries : entries low first xs rest ≡ [] → (low ≡ []) × (xs ≡ []) × (rest ≡ [])
    no_entries e =
        let none = ap length e in
        let all = length-entries in (
          nil_from_length low (omega (arith, none, all)),
          nil_from_length xs (omega (arith, none, all)),
          nil_from_length rest (omega (arith, none, all)),
        )

    module _ (parts : AreParts low first xs rest) where
      below : (n : ℕ) → first ≤ n → Below n low
      below n h = All-weaker (λ q. q < first) (λ q. q < n) (λ q k. omega (arith, h, k))
          (keys_of low) parts.below

      above : (n : ℕ) → n < first → Above n (enumerate_from first xs ++ rest)
      above n h = keys_above xs rest first n h
          (All-weaker (λ q. first + length xs ≤ q) (λ q. n < q) (λ q k. omega (arith, h, k))
          (keys_of rest) parts.above)

      pub rising : IsStrictlySortedBy nat_cmp (keys_of low)
          → IsStrictlySortedBy nat_cmp (keys_of rest)
          → IsStrictlySortedBy nat_cmp (keys_of (entries low first xs rest))
      rising s t = rising-append low (enumerate_from first xs ++ rest) first parts.below above s
          (rising-enumerate_from xs rest first parts.above t)

    module _ (parts : AreParts low first xs rest) (n : ℕ) where
      pub at_low : n < first → at n low ≡ at n (entries low first xs rest)
      at_low h = sym (at-append_above low (enumerate_from first xs ++ rest) n (above parts n h))

      pub at_ordered : (j : ℕ) (d : A) → n ≡ first + j → j < length xs
          → Some (get_or xs j d) ≡ at n (entries low first xs rest)
      at_ordered j d e h =
          sym (at-append_below low (enumerate_from first xs ++ rest) n (below parts n (omega arith))
          ∙ at-enumerate_from xs rest first j n d e h)

      pub at_rest : first + length xs ≤ n → at n rest ≡ at n (entries low first xs rest)
      at_rest h =
          sym (at-append_below low (enumerate_from first xs ++ rest) n (below parts n (omega arith))
          ∙ at-append_below (enumerate_from first xs) rest n (keys_below xs first n h))

      pub put_low : (v : A) → n < first → entries (insert_entry nat_cmp low n v) first xs rest
          ≡ insert_entry nat_cmp (entries low first xs rest) n v
      put_low v h =
          sym (insert_entry-append_above low (enumerate_from first xs ++ rest) n v
          (above parts n h))

      pub put_ordered : (j : ℕ) (v : A) → n ≡ first + j → j < length xs
          → entries low first (set xs j v) rest
          ≡ insert_entry nat_cmp (entries low first xs rest) n v
      put_ordered j v e h =
          sym (insert_entry-append_below low (enumerate_from first xs ++ rest) n v
          (below parts n (omega arith))
          ∙ ap (λ l. low ++ l) (insert_entry-enumerate_from xs rest first j n v e h))

      pub put_rest : (v : A) → first + length xs ≤ n
          → entries low first xs (insert_entry nat_cmp rest n v)
          ≡ insert_entry nat_cmp (entries low first xs rest) n v
      put_rest v h =
          sym (insert_entry-append_below low (enumerate_from first xs ++ rest) n v
          (below parts n (omega arith))
          ∙ ap (λ l. low ++ l)
          (insert_entry-append_below (enumerate_from first xs) rest n v
          (keys_below xs first n h)))

      pub put_next : (v : A) → length rest ≡ 0 → n ≡ first + length xs
          → entries low first (xs ++ v ∷ []) rest
          ≡ insert_entry nat_cmp (entries low first xs rest) n v
      put_next v none e =
          let empty : rest ≡ [] = nil_from_length rest none in
          let behind = rw empty at (put_rest v (omega arith)) in
          rw (enumerate_from-push xs first n v e, empty, append-nil) behind

      pub next_is_none : length rest ≡ 0 → n ≡ first + length xs
          → at n (entries low first xs rest) ≡ None
      next_is_none none e =
          sym (at_rest (omega arith)) ∙ ap (at n) (nil_from_length rest none)

  module _ (low : List (ℕ × A)) (xs ys : List A) (rest : List (ℕ × A)) (n : ℕ) where
    pub put_first : (v : A) → low ≡ [] → xs ≡ [] → rest ≡ [] → ys ≡ xs ++ v ∷ []
        → entries low n ys rest ≡ insert_entry nat_cmp [] n v
    put_first v a b d e = rw (e, a, b, d) refl

    pub still_none : low ≡ [] → xs ≡ [] → rest ≡ [] → ys ≡ xs → entries low n ys rest ≡ []
    still_none a b d e = rw (e, a, b, d) refl
