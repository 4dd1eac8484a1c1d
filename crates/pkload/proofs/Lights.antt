-- Keys that weigh one may be counted together, at the end; keys of pairs are every other object.
use Rattle.std.proofs.Common.{◌≡◌, ◌+◌, ◌-◌, ◌<◌, ◌≤◌, ℕ, suc, List, [], ◌∷◌, length, map, drop}
use Rattle.std.proofs.Common.{get_or, true, false, Bool, not, ap, arith, refl, sym, ◌∙◌}
use Rattle.std.proofs.Math.Seq.{drop-cons}
use Rattle.std.proofs.lemmas.Bool.Decides.{nat_tests}
use Rattle.std.specs.List.{list_all}
use Rattle.pkstack.specs.Shape.{Entry, Item, is_even}
use Rattle.pkload.specs.Heft.{Heft, deepest_of, weights_of}
use Rattle.pkload.specs.Keys.{every_other}
use Rattle.pkload.specs.Private.Gathered.{is_light}
use Rattle.pkload.specs.Private.Billing.{AreFrozen, ArePairsReplaced, HasKeys, HasPairs}
use Rattle.pkload.specs.Private.Billing.{HasReplaced, HasSlice, frozen_heft}
use Rattle.pkload.specs.Private.Packed.{unpacked}
use Rattle.pkload.specs.Private.Shown.{HasObjects}
use Rattle.pkload.specs.Tally.{with_key, with_keys}
use Rattle.pkload.specs.declared.tally.Tally.{Tally}

-- what keys weigh together is added to the work
pub work_of : (t : Tally) (keys : List Heft)
    → (with_keys t keys).work ≡ t.work + weights_of keys
work_of t [] = omega arith
work_of t (key ∷ keys) = omega (arith, work_of t keys)

module _ (entries below : List (Entry Heft)) (codes : List ℕ) (tally counted : Tally) (count : ℕ)
    (objects : HasObjects entries codes) (h : HasSlice entries below count) where
  same_objects : h.hefts ≡ map unpacked codes
  same_objects = objects _ h.is

  -- the objects that were counted are those of the slice
  pub keys_counted : counted ≡ with_keys tally (map unpacked codes)
      → HasKeys entries below tally counted count
  keys_counted is =
      let all = is ∙ ap (with_keys tally) (sym same_objects) in
      record {
        found = h;
        counted_is = all;
        work_is = ap (λ t. t.work) all ∙ work_of tally h.hefts;
      }

  pub pairs_counted : is_even (map unpacked codes) ≡ true
      → counted ≡ with_keys tally (every_other (map unpacked codes))
      → HasPairs entries below tally counted count
  pairs_counted even is = record {
    found = h;
    even = ap is_even same_objects ∙ even;
    counted_is = is ∙ ap (λ l. with_keys tally (every_other l)) (sym same_objects);
  }

-- their weights are added to the work
pub keys_grow : (tally counted : Tally) (codes : List ℕ)
    → counted ≡ with_keys tally (map unpacked codes) → tally.work ≤ counted.work
keys_grow tally counted codes is =
    omega (arith, ap (λ t. t.work) is, work_of tally (map unpacked codes))

module _ (entries new : List (Entry Heft)) (codes : List ℕ) (tally counted : Tally) (heft : Heft)
    (count : ℕ) (objects : HasObjects entries codes) (h : HasReplaced entries new heft count) where
  -- likewise where an object is put in their place
  pub pairs_replaced : is_even (map unpacked codes) ≡ true
      → counted ≡ with_keys tally (every_other (map unpacked codes))
      → ArePairsReplaced entries new tally counted heft count
  pairs_replaced even is = record {
    below = h.below;
    pairs = pairs_counted entries h.below codes tally counted count objects h.found even is;
    new_is = h.new_is;
  }

  pub keys_frozen : counted ≡ with_keys tally (map unpacked codes)
      → heft ≡ frozen_heft (counted.work - tally.work)
      → AreFrozen entries new tally counted count
  keys_frozen is frozen =
      let keys = keys_counted entries h.below codes tally counted count objects h.found is in
      let held : counted.work - tally.work ≡ weights_of keys.found.hefts =
      omega (arith, keys.work_is) in
      record {
        below = h.below;
        keys = keys;
        new_is = h.new_is
            ∙ ap (λ heft. Item heft ∷ h.below) (frozen ∙ ap frozen_heft held);
      }

-- light objects weigh as many as they are, and none is deep
pub light_weights : (codes : List ℕ) → list_all is_light codes ≡ true
    → weights_of (map unpacked codes) ≡ length codes
light_weights [] light = refl
light_weights (code ∷ codes) light = grind (arith, nat_tests, light_weights codes)

pub light_depths : (codes : List ℕ) → list_all is_light codes ≡ true
    → deepest_of (map unpacked codes) ≡ 0
light_depths [] light = refl
light_depths (code ∷ codes) light = grind (arith, nat_tests, light_depths codes)

module _ (codes : List ℕ) (place : ℕ) (two : 1 < place) (within : place ≤ length codes) where
  two_more : drop (place - 2) codes
      ≡ get_or codes (place - 2) 0 ∷ get_or codes (place - 1) 0 ∷ drop place codes
  two_more =
      let next : suc (place - 2) ≡ place - 1 = omega (arith, two) in
      let last : suc (place - 1) ≡ place = omega (arith, two) in
      drop-cons codes (place - 2) 0 (omega (arith, two, within))
      ∙ ap (λ k. get_or codes (place - 2) 0 ∷ drop k codes) next
      ∙ ap (λ l. get_or codes (place - 2) 0 ∷ l)
      (drop-cons codes (place - 1) 0 (omega (arith, two, within))
      ∙ ap (λ k. get_or codes (place - 1) 0 ∷ drop k codes) last)

  pub even_more : is_even (map unpacked (drop (place - 2) codes))
      ≡ is_even (map unpacked (drop place codes))
  even_more = ap (λ l. is_even (map unpacked l)) two_more
      ∙ twice (is_even (map unpacked (drop place codes)))
    where
      twice : (b : Bool) → not (not b) ≡ b
      twice true = refl
      twice false = refl

  -- the lower one of two more objects is one more key
  pub key_more : (before : Tally)
      → with_keys before (every_other (map unpacked (drop (place - 2) codes)))
      ≡ with_key (with_keys before (every_other (map unpacked (drop place codes))))
      (unpacked (get_or codes (place - 2) 0))
  key_more before = ap (λ l. with_keys before (every_other (map unpacked l))) two_more
