-- A binary search finds only pairs of the array, and finds each of them if the array is sorted.
use Rattle.std.proofs.Common.{◌≡◌, ℕ, zero, suc, ◌+◌, ◌-◌, ◌/◌, ◌<◌, ◌≤◌, Bool, true, false, ◌&&◌}
use Rattle.std.proofs.Common.{◌||◌, List, [], ◌∷◌, length, get_or, Option, Some, None, option_map}
use Rattle.std.proofs.Common.{slice_get, nat_lt, if◌then◌else◌, refl, ap, sym, ◌∙◌, arith, Ordering}
use Rattle.std.proofs.Common.{Less, Equal, Greater, is_eq, nat_cmp}
use Rattle.std.specs.Ordering.{ordering_then, ordering_index}
use Rattle.std.specs.Cmp.{IsTotalOrder}
use Rattle.std.specs.Cmp.Lexicographic.{slice_cmp}
use Rattle.std.specs.List.{list_any}
use Rattle.std.specs.List.Sorted.{IsNonDecreasingBy}
use Rattle.std.specs.Str.{bytes_eq}
use Rattle.std.proofs.lemmas.Bool.{false≢true, false_from_ne_true, lt-ltb, ltb-false, ltb-true}
use Rattle.std.proofs.lemmas.Cmp.{on_total, then_total, nat_list_cmp_total}
use Rattle.std.proofs.lemmas.List.Folds.{list_any_at}
use Rattle.std.proofs.lemmas.List.Sorted.{searchable_from_sorted}
use Rattle.std.proofs.lemmas.Map.Text.{is_eq-slice_cmp}
use Rattle.std.proofs.lemmas.Option.{get_or_from_slice_get, slice_get-get_or, slice_get_within}
use Rattle.pklist.specs.declared.pairs.Pair.{Pair}
use Rattle.pklist.specs.Pairs.{AreInOrder, HalvingIsRight, by_middle, comes_to, found, have}
use Rattle.pklist.specs.Pairs.{order_to}

-- the pair with this module and this name
abbrev pair_of : List ℕ → List ℕ → Pair
pair_of m n = record {
  module_name = record { ref_ptr = (0, 0); now = m };
  name = record { ref_ptr = (0, 0); now = n };
}

-- two comparisons give Equal if both are Equal
both : (a b : Ordering) → is_eq (ordering_then a b) ≡ (is_eq a && is_eq b)
both Less b = refl
both _ b = refl

-- a pair compares as Equal if it has this module and this name
pub equal_is_same : (m n : List ℕ) (p : Pair)
    → is_eq (order_to m n p) ≡ (bytes_eq p.module_name.now m && bytes_eq p.name.now n)
equal_is_same m n p =
    both (slice_cmp nat_cmp p.module_name.now m) (slice_cmp nat_cmp p.name.now n)
    ∙ (rw (is_eq-slice_cmp p.module_name.now m, is_eq-slice_cmp p.name.now n) refl)

is_Equal : (o : Ordering) → is_eq o ≡ true → o ≡ Equal
is_Equal Equal h = refl
is_Equal _ h = cc

-- the element at an index
got_inside : {A : Type 0} (xs : List A) (i : ℕ) (d x : A) → slice_get xs i ≡ Some x
    → (i < length xs) × (get_or xs i d ≡ x)
got_inside xs i d x e = (slice_get_within xs i x e, get_or_from_slice_get xs i x d e)

-- the index of an element that passes a test
record Passes {A : Type 0} (test : A → Bool) (xs : List A) : Type 0 where
  place : ℕ
  one : A
  at : slice_get xs place ≡ Some one
  passes : test one ≡ true

any_place : {A : Type 0} (test : A → Bool) (xs : List A) → list_any test xs ≡ true → Passes test xs
any_place test [] h = cc
any_place test (x ∷ xs) h =
    elim (test x) as (λ b. test x ≡ b → (b || list_any test xs) ≡ true → Passes test (x ∷ xs)) [
      | true ↦ λ e g. record { place = zero; one = x; at = refl; passes = e }
      | false ↦ λ e g. let p = any_place test xs g in
          record { place = suc p.place; one = p.one; at = p.at; passes = p.passes }
    ] refl h

module _ (order : Pair → Ordering) (pairs : List Pair) where
  -- the index at which a binary search looks
  abbrev middle : ℕ → ℕ → ℕ
  middle low high = low + (high - low) / 2

  by_some :
      (steps place : ℕ) (got : Option Pair) (above below : ℕ × ℕ) → slice_get pairs place ≡ got
      → ((l h : ℕ) → comes_to order pairs steps l h ≡ true
      → list_any (λ p. is_eq (order p)) pairs ≡ true)
      → by_middle (option_map order got) (comes_to order pairs steps above.0 above.1)
      (comes_to order pairs steps below.0 below.1) ≡ true
      → list_any (λ p. is_eq (order p)) pairs ≡ true
  by_some steps place None above below got further h = cc
  by_some steps place (Some p) above below got further h =
      elim (order p) as (λ o. order p ≡ o → by_middle (Some o)
      (comes_to order pairs steps above.0 above.1) (comes_to order pairs steps below.0 below.1)
      ≡ true → list_any (λ p. is_eq (order p)) pairs ≡ true) [
        | Less ↦ λ e g. further above.0 above.1 g
        | Equal ↦ λ e g. let there = got_inside pairs place p p got in
            list_any_at (λ p. is_eq (order p)) pairs place p there.0 (rw there.1 (ap is_eq e))
        | Greater ↦ λ e g. further below.0 below.1 g
      ] refl h

  -- a pair that a binary search finds is in the array
  pub comes_to_some : (steps low high : ℕ) → comes_to order pairs steps low high ≡ true
      → list_any (λ p. is_eq (order p)) pairs ≡ true
  comes_to_some zero low high h = cc
  comes_to_some (suc steps) low high h =
      elim (nat_lt low high) as (λ b.
      (if b then by_middle (option_map order (slice_get pairs (middle low high)))
      (comes_to order pairs steps (middle low high + 1) high)
      (comes_to order pairs steps low (middle low high)) else false) ≡ true
      → list_any (λ p. is_eq (order p)) pairs ≡ true) [
        | true ↦ λ g. by_some steps (middle low high) (slice_get pairs (middle low high))
            (middle low high + 1, high) (low, middle low high) refl (comes_to_some steps) g
        | false ↦ λ g. cc
      ] h

  module _ (rises : IsNonDecreasingBy (λ p. ordering_index (order p)) pairs) where
    -- of two pairs, the one that compares as lower comes first
    before : (i j : ℕ) (p q : Pair) → slice_get pairs i ≡ Some p → slice_get pairs j ≡ Some q
        → ordering_index (order p) < ordering_index (order q) → i < j
    before i j p q e f lower =
        let a = got_inside pairs i p p e in
        let b = got_inside pairs j p q f in
        elim (nat_lt i j) as (λ t. nat_lt i j ≡ t → i < j) [
          | true ↦ λ t. ltb-true _ _ t
          | false ↦ λ t.
              let rising : ordering_index (order (get_or pairs j p))
              ≤ ordering_index (order (get_or pairs i p)) = rises j i p (ltb-false i j t) a.0 in
              absurd (omega (arith, lower, rw (a.1, b.1) at rising))
        ] refl

    -- a binary search finds a pair that compares as Equal
    pub comes_to_equal :
        (steps low high i : ℕ) (p : Pair) → slice_get pairs i ≡ Some p → order p ≡ Equal
        → low ≤ i → i < high → high ≤ length pairs → high - low ≤ steps
        → comes_to order pairs steps low high ≡ true
    comes_to_equal zero low high i p e equal from to inside few =
        absurd (omega (arith, from, to, few))
    comes_to_equal (suc steps) low high i p e equal from to inside few =
        let m : ℕ = middle low high in
        let bounds : (low ≤ m) × (m < high) = (omega arith, omega (arith, from, to)) in
        let q : Pair = get_or pairs m p in
        let there : slice_get pairs m ≡ Some q = slice_get-get_or pairs m p
        (omega (arith, bounds.1, inside)) in
        let goes : nat_lt low high ≡ true = lt-ltb low high (omega (arith, from, to)) in
        rw (goes, there)
        (elim (order q) as (λ o. order q ≡ o → by_middle (Some o)
        (comes_to order pairs steps (m + 1) high) (comes_to order pairs steps low m) ≡ true) [
          | Less ↦ λ o. comes_to_equal steps (m + 1) high i p e equal
              (omega (arith, before m i q p there e (rw (o, equal) (omega arith)))) to inside
              (omega (arith, bounds.0, bounds.1, few))
          | Equal ↦ λ o. refl
          | Greater ↦ λ o. comes_to_equal steps low m i p e equal from
              (before i m p q e there (rw (o, equal) (omega arith)))
              (omega (arith, bounds.1, inside)) (omega (arith, bounds.0, bounds.1, few))
        ] refl)

-- one of the pairs compares as Equal if the array has this module and this name
any_same : (m n : List ℕ) (pairs : List Pair)
    → list_any (λ p. is_eq (order_to m n p)) pairs ≡ have pairs m n
any_same m n [] = refl
any_same m n (p ∷ pairs) = rw (equal_is_same m n p, any_same m n pairs) refl

pub found_is_had : (pairs : List Pair) (m n : List ℕ) → found pairs m n ≡ true
    → have pairs m n ≡ true
found_is_had pairs m n h =
    sym (any_same m n pairs) ∙ comes_to_some (order_to m n) pairs (length pairs) 0 (length pairs) h

-- comparing by module and then by name, byte for byte, is an order
abbrev order_of_pairs : Pair → Pair → Ordering
order_of_pairs a b = order_to b.module_name.now b.name.now a

is_order : IsTotalOrder order_of_pairs
is_order = then_total (on_total (λ p. p.module_name.now) nat_list_cmp_total)
    (on_total (λ p. p.name.now) nat_list_cmp_total)

had_is_found : (pairs : List Pair) (m n : List ℕ) → AreInOrder pairs → have pairs m n ≡ true
    → found pairs m n ≡ true
had_is_found pairs m n sorted h =
    let rises = searchable_from_sorted is_order (λ p. p) pairs (pair_of m n) sorted in
    let one = any_place (λ p. is_eq (order_to m n p)) pairs (any_same m n pairs ∙ h) in
    let inside = got_inside pairs one.place one.one one.one one.at in
    comes_to_equal (order_to m n) pairs rises (length pairs) 0
    (length pairs) one.place one.one one.at (is_Equal _ one.passes) (omega arith) inside.0
    (omega arith) (omega arith)

found_or_not : (pairs : List Pair) (m n : List ℕ) → AreInOrder pairs → (b : Bool)
    → have pairs m n ≡ b → found pairs m n ≡ b
found_or_not pairs m n sorted true h = had_is_found pairs m n sorted h
found_or_not pairs m n sorted false h =
    false_from_ne_true _ (λ f. false≢true (sym h ∙ found_is_had pairs m n f))

pub halving_is_right : HalvingIsRight
halving_is_right = record {
  no_more = found_is_had;
  all = λ pairs m n sorted. found_or_not pairs m n sorted (have pairs m n) refl;
}
