-- Where the keys counted so far give a sum that doesn't fit, so do all keys.
use Rattle.std.proofs.Common.{◌≡◌, ◌+◌, ◌-◌, ◌<◌, ◌≤◌, ◌^◌, ℕ, suc, List, [], ◌∷◌, ◌++◌, length}
use Rattle.std.proofs.Common.{drop, take, get_or, true, false, cond, Bool, not, ap, arith, refl}
use Rattle.std.proofs.Common.{◌∙◌, map, sym, subst, inl, inr, Result, Ok, Err, zero}
use Rattle.std.proofs.Math.Seq.{drop-cons}
use Rattle.std.proofs.lemmas.List.{map-append, take-append-drop}
use Rattle.std.specs.Prelude.{IfOk}
use Rattle.pkstack.specs.Shape.{Breach, Entry, NoMark, Taken, is_even, slice}
use Rattle.pkload.specs.Heft.{Heft}
use Rattle.pkload.specs.Keys.{every_other}
use Rattle.pkload.specs.Private.Gathered.{with_lights}
use Rattle.pkload.specs.Private.Lost.{IsTallyTooGreat, LacksKeys, LacksPairs}
use Rattle.pkload.specs.Private.Packed.{unpacked}
use Rattle.pkload.specs.Private.Shown.{HasObjects}
use Rattle.pkload.specs.Tally.{with_key, with_keys}
use Rattle.pkload.specs.declared.tally.Tally.{Tally}
use Rattle.pkload.proofs.Lights.{even_more, key_more, work_of}

-- ---- sums grow

less_clash : (b : Bool) (c w : ℕ) → c ≤ cond b c (c + w)
less_clash true c w = omega arith
less_clash false c w = omega arith

clash_grows : (t : Tally) (keys : List Heft) → t.clash ≤ (with_keys t keys).clash
clash_grows t [] = omega arith
clash_grows t (key ∷ keys) = omega (
  arith,
  clash_grows t keys,
  less_clash key.salted (with_keys t keys).clash key.weight,
)

great_then : (t : Tally) (keys : List Heft) → IsTallyTooGreat t
    → IsTallyTooGreat (with_keys t keys)
great_then t keys (inl h) = inl (omega (arith, h, work_of t keys))
great_then t keys (inr h) = inr (omega (arith, h, clash_grows t keys))

keys_append : (t : Tally) (xs ys : List Heft)
    → with_keys t (xs ++ ys) ≡ with_keys (with_keys t ys) xs
keys_append t [] ys = refl
keys_append t (x ∷ xs) ys = ap (λ s. with_key s x) (keys_append t xs ys)

great_all : (t : Tally) (xs ys all : List Heft) → xs ++ ys ≡ all
    → IsTallyTooGreat (with_keys t ys) → IsTallyTooGreat (with_keys t all)
great_all t xs ys all e h =
    subst IsTallyTooGreat (sym (keys_append t xs ys) ∙ ap (with_keys t) e)
    (great_then (with_keys t ys) xs h)

more_clash : (b : Bool) (c p w : ℕ) → 2 ^ 64 ≤ cond b c (c + w)
    → 2 ^ 64 ≤ cond b (c + p) ((c + p) + w)
more_clash true c p w h = omega (arith, h)
more_clash false c p w h = omega (arith, h)

-- also behind light keys
great_behind : (t : Tally) (key : Heft) (plain salted : ℕ) → IsTallyTooGreat (with_key t key)
    → IsTallyTooGreat (with_key (with_lights plain salted t) key)
great_behind t key plain salted (inl h) = inl (omega (arith, h))
great_behind t key plain salted (inr h) = inr (more_clash key.salted t.clash plain key.weight h)

-- ---- items

front_of : (codes : List ℕ) (place : ℕ)
    → map unpacked (take place codes) ++ map unpacked (drop place codes) ≡ map unpacked codes
front_of codes place = sym (map-append unpacked (take place codes) (drop place codes))
    ∙ ap (map unpacked) (take-append-drop place codes)

-- the next item gives a sum that doesn't fit
pub items_great : (before tally : Tally) (codes : List ℕ) (place plain salted : ℕ)
    → 0 < place → place ≤ length codes
    → with_lights plain salted tally ≡ with_keys before (map unpacked (drop place codes))
    → IsTallyTooGreat (with_key tally (unpacked (get_or codes (place - 1) 0)))
    → IsTallyTooGreat (with_keys before (map unpacked codes))
items_great before tally codes place plain salted some within is h =
    let key = unpacked (get_or codes (place - 1) 0) in
    let last : suc (place - 1) ≡ place = omega (arith, some) in
    let next : drop (place - 1) codes ≡ get_or codes (place - 1) 0 ∷ drop place codes =
    drop-cons codes (place - 1) 0 (omega (arith, some, within))
    ∙ ap (λ n. get_or codes (place - 1) 0 ∷ drop n codes) last in
    great_all before (map unpacked (take (place - 1) codes)) (map unpacked (drop (place - 1) codes))
    (map unpacked codes) (front_of codes (place - 1))
    (subst IsTallyTooGreat
    (ap (λ t. with_key t key) is ∙ ap (λ l. with_keys before (map unpacked l)) (sym next))
    (great_behind tally key plain salted h))

-- ---- pairs

even_front : (xs ys : List Heft) → is_even ys ≡ true → is_even (xs ++ ys) ≡ is_even xs
even_front [] ys e = e
even_front (x ∷ xs) ys e = ap not (even_front xs ys e)

twice : (b : Bool) → not (not b) ≡ b
twice true = refl
twice false = refl

others_append : (xs ys : List Heft) → is_even xs ≡ true
    → every_other (xs ++ ys) ≡ every_other xs ++ every_other ys
others_append [] ys e = refl
others_append (x ∷ []) ys e = cc e
others_append (x ∷ y ∷ xs) ys e =
    ap (λ l. x ∷ l) (others_append xs ys (sym (twice (is_even xs)) ∙ e))

-- likewise of every other object, if their number is even
pub pairs_great : (before tally : Tally) (codes : List ℕ) (place plain salted : ℕ) → 1 < place
    → place ≤ length codes → is_even (map unpacked (drop place codes)) ≡ true
    → with_lights plain salted tally
    ≡ with_keys before (every_other (map unpacked (drop place codes)))
    → IsTallyTooGreat (with_key tally (unpacked (get_or codes (place - 2) 0)))
    → is_even (map unpacked codes) ≡ true
    → IsTallyTooGreat (with_keys before (every_other (map unpacked codes)))
pairs_great before tally codes place plain salted two within last is h even =
    let rest = even_more codes place two within ∙ last in
    let key = unpacked (get_or codes (place - 2) 0) in
    let xs = map unpacked (take (place - 2) codes) in
    let ys = map unpacked (drop (place - 2) codes) in
    let front : is_even xs ≡ true = sym (even_front xs ys rest)
    ∙ ap is_even (front_of codes (place - 2)) ∙ even in
    great_all before (every_other xs) (every_other ys) (every_other (map unpacked codes))
    (sym (others_append xs ys front) ∙ ap every_other (front_of codes (place - 2)))
    (subst IsTallyTooGreat
    (ap (λ t. with_key t key) is ∙ sym (key_more codes place two within before))
    (great_behind tally key plain salted h))

-- one object that is left is one too many
pub odd_left : (codes : List ℕ) (place : ℕ) → 0 < place → place ≤ 1 → place ≤ length codes
    → is_even (map unpacked (drop place codes)) ≡ true → is_even (map unpacked codes) ≡ true → ⊥
odd_left [] place some few within rest even = absurd (omega (arith, some, within))
odd_left (code ∷ codes) (suc zero) some few within rest even =
    let odd : not true ≡ true = ap not (sym rest) ∙ even in cc odd
odd_left (code ∷ codes) zero some few within rest even = absurd (omega (arith, some))
odd_left (code ∷ codes) (suc (suc place)) some few within rest even = omega (arith, few)

-- ---- the slice

-- without a slice nothing is counted
pub no_keys : (entries : List (Entry Heft)) (tally : Tally) → slice entries [] ≡ Err NoMark
    → LacksKeys entries tally
no_keys entries tally none =
    subst (λ x. IfOk x (λ taken. IsTallyTooGreat (with_keys tally taken.operands))) (sym none) tt

pub no_pairs : (entries : List (Entry Heft)) (tally : Tally) → slice entries [] ≡ Err NoMark
    → LacksPairs entries tally
no_pairs entries tally none = subst (λ x. IfOk x (λ taken. is_even taken.operands ≡ true
    → IsTallyTooGreat (with_keys tally (every_other taken.operands)))) (sym none) tt

module _ (entries : List (Entry Heft)) (codes : List ℕ) (tally : Tally)
    (objects : HasObjects entries codes) where
  pub great_keys : IsTallyTooGreat (with_keys tally (map unpacked codes)) → LacksKeys entries tally
  great_keys h = found (slice entries []) refl
    where
      found : (x : Result (Taken Heft) Breach) → slice entries [] ≡ x
          → IfOk x (λ taken. IsTallyTooGreat (with_keys tally taken.operands))
      found (Ok taken) is =
          subst (λ l. IsTallyTooGreat (with_keys tally l)) (sym (objects taken is)) h
      found (Err breach) is = tt

  pub great_pairs : (is_even (map unpacked codes) ≡ true
      → IsTallyTooGreat (with_keys tally (every_other (map unpacked codes))))
      → LacksPairs entries tally
  great_pairs h = found (slice entries []) refl
    where
      found : (x : Result (Taken Heft) Breach) → slice entries [] ≡ x
          → IfOk x (λ taken. is_even taken.operands ≡ true
          → IsTallyTooGreat (with_keys tally (every_other taken.operands)))
      found (Ok taken) is = λ even.
          subst (λ l. IsTallyTooGreat (with_keys tally (every_other l))) (sym (objects taken is))
          (h (ap is_even (sym (objects taken is)) ∙ even))
      found (Err breach) is = tt
