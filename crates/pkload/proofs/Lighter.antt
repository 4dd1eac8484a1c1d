-- What is made of lighter objects is lighter, and counts at most as much.
use Rattle.std.proofs.Common.{◌+◌, ◌≤◌, ℕ, Bool, true, false, cond, ◌||◌, List, [], ◌∷◌, refl, min}
use Rattle.std.proofs.Common.{arith}
use Rattle.pkops.specs.declared.Op.{Op}
use Rattle.pkops.specs.declared.Op.TheVariants as op
use Rattle.pkmachine.specs.Covers.{Pointwise}
use Rattle.pkload.proofs.Accounts.{implies_itself}
use Rattle.pkload.specs.Heft.{Heft, deepest_of, heft_made, weights_of}
use Rattle.pkload.specs.Keys.{behind_first, every_other, keys_of}
use Rattle.pkload.specs.Tally.{Implies, IsAtMost, builds_import, is_first_imported, with_key}
use Rattle.pkload.specs.Tally.{with_keys, with_operation}
use Rattle.pkload.specs.declared.tally.Tally.{Tally}

-- one object costs at most what the other does. What is known to be hashed without salt is
pub record IsLighter (a b : Heft) : Type 0 where
  pub weight : a.weight ≤ b.weight
  pub depth : a.depth ≤ b.depth
  pub salted : Implies b.salted a.salted
  pub imported : Implies a.imported b.imported

abbrev pub AreLighter : List Heft → List Heft → Type 0
AreLighter = Pointwise IsLighter

-- ---- keys

module _ {A B : Type 0} (R : A → B → Type 0) where
  others_alike : (xs : List A) (ys : List B) → Pointwise R xs ys
      → Pointwise R (every_other xs) (every_other ys)
  others_alike [] [] h = tt
  others_alike (x ∷ []) (y ∷ []) h = h
  others_alike (x ∷ v ∷ xs) (y ∷ w ∷ ys) h = (h.0, others_alike xs ys h.1.1)
  others_alike _ _ h = absurd (search)

  rest_alike : (xs : List A) (ys : List B) → Pointwise R xs ys
      → Pointwise R (behind_first xs) (behind_first ys)
  rest_alike [] [] h = tt
  rest_alike (x ∷ xs) (y ∷ ys) h = h.1
  rest_alike _ _ h = absurd h

  pub keys_alike : (o : Op) (xs : List A) (ys : List B) → Pointwise R xs ys
      → Pointwise R (keys_of o xs) (keys_of o ys)
  keys_alike op.SetItem xs ys h =
      others_alike (behind_first xs) (behind_first ys) (rest_alike xs ys h)
  keys_alike op.SetItems xs ys h =
      others_alike (behind_first xs) (behind_first ys) (rest_alike xs ys h)
  keys_alike op.Dict xs ys h = others_alike xs ys h
  keys_alike op.AddItems xs ys h = rest_alike xs ys h
  keys_alike op.FrozenSet xs ys h = h
  keys_alike _ xs ys h = tt

clash_below : (p q : Bool) (a b v w : ℕ) → Implies q p → a ≤ b → v ≤ w
    → cond p a (a + v) ≤ cond q b (b + w)
clash_below true q a b v w s h g = grind arith
clash_below false true a b v w s h g = cc
clash_below false false a b v w s h g = omega (arith, h, g)

key_below : (a b : Tally) (v w : Heft) → IsAtMost a b → IsLighter v w
    → IsAtMost (with_key a v) (with_key b w)
key_below a b v w h g = search (arith, clash_below)

keys_below : (a b : Tally) (hs xs : List Heft) → IsAtMost a b → AreLighter hs xs
    → IsAtMost (with_keys a hs) (with_keys b xs)
keys_below a b [] [] h g = h
keys_below a b (v ∷ hs) (w ∷ xs) h g =
    key_below (with_keys a hs) (with_keys b xs) v w (keys_below a b hs xs h g.1) g.0
keys_below a b _ _ h g = absurd g

-- ---- BUILD

first_imported : (hs xs : List Heft) → AreLighter hs xs
    → Implies (is_first_imported hs) (is_first_imported xs)
first_imported [] [] h = tt
first_imported (v ∷ hs) (w ∷ xs) h = h.0.imported
first_imported _ _ h = absurd h

build_below : (o : Op) (hs xs : List Heft) → AreLighter hs xs
    → Implies (builds_import o hs) (builds_import o xs)
build_below op.Build hs xs h = first_imported hs xs h
build_below _ hs xs h = tt

either_implies : (a b p q : Bool) → Implies a b → Implies p q → Implies (a || p) (b || q)
either_implies true false p q h g = cc
either_implies false false p q h g = g
either_implies false true false q h g = tt
either_implies _ _ p q h g = refl

pub operation_below : (o : Op) (a b : Tally) (hs xs : List Heft) → IsAtMost a b
    → AreLighter hs xs → IsAtMost (with_operation o hs a) (with_operation o xs b)
operation_below o a b hs xs h g =
    let k = keys_below a b (keys_of o hs) (keys_of o xs) h (keys_alike IsLighter o hs xs g) in
    let built = build_below o hs xs g in search (arith, either_implies)

-- ---- what is made

weights_below : (hs xs : List Heft) → AreLighter hs xs → weights_of hs ≤ weights_of xs
weights_below [] [] h = omega arith
weights_below (v ∷ hs) (w ∷ xs) h = omega (arith, h.0.weight, weights_below hs xs h.1)
weights_below _ _ h = absurd h

depths_below : (hs xs : List Heft) → AreLighter hs xs → deepest_of hs ≤ deepest_of xs
depths_below [] [] h = omega arith
depths_below (v ∷ hs) (w ∷ xs) h = omega (arith, h.0.depth, depths_below hs xs h.1)
depths_below _ _ h = absurd h

weight_below : (q : Bool) (most payload a b : ℕ) → a ≤ b
    → min most (1 + (payload + cond q a 0)) ≤ min most (1 + (payload + cond q b 0))
weight_below q most payload a b h = grind arith

depth_below : (q : Bool) (most a b : ℕ) → a ≤ b
    → cond q (min most (1 + a)) 0 ≤ cond q (min most (1 + b)) 0
depth_below q most a b h = grind arith

pub made_below : (o : Op) (size : ℕ) (hs xs : List Heft) → AreLighter hs xs
    → IsLighter (heft_made o size hs) (heft_made o size xs)
made_below o size hs xs h =
    let weights = weights_below hs xs h in
    let depths = depths_below hs xs h in search (arith, weight_below, depth_below, implies_itself)
