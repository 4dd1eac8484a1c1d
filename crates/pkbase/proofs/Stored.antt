-- Storing under a new number adds an entry to a map, and storing under a used one doesn't.
use Rattle.std.proofs.Common.{◌≡◌, ℕ, ◌+◌, ◌≤◌, List, [], ◌∷◌, length, Option, Some, None, true}
use Rattle.std.proofs.Common.{false, is_some, refl, arith}
use Rattle.std.proofs.lemmas.Cmp.{nat_cmp_total}
use Rattle.std.proofs.lemmas.List.Sums.{sum_by-cons}
use Rattle.std.proofs.lemmas.Map.Entries.{length-values_of, sum_by-insert_entry}
use Rattle.std.specs.List.Sorted.{IsStrictlySortedBy}
use Rattle.std.specs.List.{sum_by}
use Rattle.std.specs.BTreeMap.{insert_entry, is_at}
use Rattle.std.specs.Map.{keys_of, lookup, values_of}
use Rattle.std.specs.Option.{unwrap_or, option_map}
use Rattle.std.specs.Ordering.{nat_cmp}
use Rattle.std.specs.Result.{IfErr, OnErr}
use Rattle.std.specs.declared.result.Result.{Result}
use Rattle.std.specs.declared.result.Result.TheVariants.{Ok, Err}

-- what holds of each error, from what holds if there is one
pub if_absent : {T E P : Type 0} {Q : E → Type 0} (r : Result T E) → OnErr r P
    → (P → (e : E) → Q e) → IfErr r Q
if_absent (Ok x) h f = tt
if_absent (Err e) h f = f h e

module _ {A : Type 0} where
  -- the entries with this one
  abbrev pub stored : ℕ → A → List (ℕ × A) → List (ℕ × A)
  stored number value es = insert_entry nat_cmp es number value

  -- the value of a number
  abbrev pub recalled : ℕ → List (ℕ × A) → Option A
  recalled number es = lookup (is_at (nat_cmp number)) es

  ones : (xs : List A) → sum_by (λ x. 1) xs ≡ length xs
  ones [] = refl
  ones (x ∷ xs) = omega (arith, sum_by-cons (λ x. 1) x xs, ones xs)

  -- the number of entries
  entries : (es : List (ℕ × A)) → sum_by (λ x. 1) (values_of es) ≡ length es
  entries es = omega (arith, ones (values_of es), length-values_of es)

  module _ (es : List (ℕ × A)) (n : ℕ) (v : A) (rising : IsStrictlySortedBy nat_cmp (keys_of es))
    where
      counted : length (stored n v es) + unwrap_or (option_map (λ x. 1) (recalled n es)) 0
          ≡ length es + 1
      counted = omega (
        arith,
        sum_by-insert_entry (λ x. 1) nat_cmp_total es n v rising,
        entries es,
        entries (stored n v es),
      )

      pub at_most_one_more : length (stored n v es) ≤ length es + 1
      at_most_one_more = omega (arith, counted)

      pub one_more : is_some (recalled n es) ≡ false → length (stored n v es) ≡ length es + 1
      one_more none = by (recalled n es) none counted
        where
          by : (o : Option A) → is_some o ≡ false
              → length (stored n v es) + unwrap_or (option_map (λ x. 1) o) 0 ≡ length es + 1
              → length (stored n v es) ≡ length es + 1
          by None h e = omega (arith, e)
          by (Some x) h e = cc

      pub as_many : is_some (recalled n es) ≡ true → length (stored n v es) ≡ length es
      as_many some = by (recalled n es) some counted
        where
          by : (o : Option A) → is_some o ≡ true
              → length (stored n v es) + unwrap_or (option_map (λ x. 1) o) 0 ≡ length es + 1
              → length (stored n v es) ≡ length es
          by (Some x) h e = omega (arith, e)
          by None h e = cc
