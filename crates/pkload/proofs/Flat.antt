-- What is known of the top of the stack: which of its objects are no tuples.
use Rattle.std.proofs.Common.{◌≡◌, ◌≤◌, ℕ, zero, suc, ◌+◌, ◌*◌, Bool, true, false, leb, List, []}
use Rattle.std.proofs.Common.{◌∷◌, length, Result, Ok, Err, IfOk, refl, arith, leb-true}
use Rattle.std.proofs.Math.Nat.{suc-mul}
use Rattle.pkops.specs.declared.Op.{Op}
use Rattle.pkops.specs.declared.Op.TheVariants as op
use Rattle.pkmachine.specs.Effects.{Effect, Operates, effect_of}
use Rattle.pkstack.specs.Shape.{Breach, NoItem, Entry, Mark, Item, Taken, items, operands, slice}
use Rattle.pkload.proofs.Few.{ok_map, ok_then}
use Rattle.pkload.specs.Heft.{Heft, deepest_of, weights_of}
use Rattle.pkload.specs.declared.ceiling.Ceiling.{Ceiling}
use Rattle.pkload.specs.Private.Ceiling.{plain_weight}

-- each object weighs at most this, and is no tuple
abbrev pub ArePlain : ℕ → List Heft → Type 0
ArePlain weight [] = Unit {0}
ArePlain weight (x ∷ hs) = (x.weight ≤ weight) × (x.depth ≤ 0) × ArePlain weight hs

-- so many entries on top are such objects; a mark is below them if one is known to be there
abbrev pub AreFlat : (weight flat : ℕ) → Bool → List (Entry Heft) → Type 0
AreFlat weight zero false es = Unit {0}
AreFlat weight zero true (Mark ∷ es) = Unit {0}
AreFlat weight (suc flat) marked (Item x ∷ es) =
    (x.weight ≤ weight) × (x.depth ≤ 0) × AreFlat weight flat marked es
AreFlat weight _ _ es = ⊥

-- together they weigh at most so much for each
pub plain_weights : (weight : ℕ) (hs : List Heft) → ArePlain weight hs
    → weights_of hs ≤ length hs * weight
plain_weights weight [] h = omega arith
plain_weights weight (x ∷ hs) h =
    omega (arith, h.0, plain_weights weight hs h.2, suc-mul (length hs) weight)

pub plain_deepest : (weight : ℕ) (hs : List Heft) → ArePlain weight hs → deepest_of hs ≤ 0
plain_deepest weight [] h = omega arith
plain_deepest weight (x ∷ hs) h = omega (arith, h.1, plain_deepest weight hs h.2)

-- all operands are such objects, and at most so many, if that is known
abbrev pub AreKnown : Bool → (count weight : ℕ) → List Heft → Type 0
AreKnown true count weight hs = (length hs ≤ count) × ArePlain weight hs
AreKnown false count weight hs = Unit {0}

-- what is known of the operands of a tuple
abbrev pub AreTied : Op → Ceiling → List Heft → Type 0
AreTied op.EmptyTuple c hs = AreKnown true 0 (plain_weight c) hs
AreTied op.Tuple1 c hs = AreKnown (leb 1 c.flat) 1 (plain_weight c) hs
AreTied op.Tuple2 c hs = AreKnown (leb 2 c.flat) 2 (plain_weight c) hs
AreTied op.Tuple3 c hs = AreKnown (leb 3 c.flat) 3 (plain_weight c) hs
AreTied op.Tuple c hs = AreKnown c.marked c.flat (plain_weight c) hs
AreTied o c hs = Unit {0}

-- what an operation with this effect takes
abbrev pub taken_by : Effect → List (Entry Heft) → Result (Taken Heft) Breach
taken_by (Operates takes names gives) es = operands takes es
taken_by effect es = Err NoItem

-- what holds of everything holds of a result
pub every_ok : {X : Type 0} (P : X → Type 0) (x : Result X Breach) → ((t : X) → P t) → IfOk x P
every_ok P (Ok t) f = f t
every_ok P (Err e) f = tt

-- the topmost items are such objects, if as many are known
items_plain : (count flat weight : ℕ) (marked : Bool) (es : List (Entry Heft)) (above : List Heft)
    → count ≤ flat → AreFlat weight flat marked es → ArePlain weight above
    → IfOk (items count es above)
    (λ t. AreKnown true (count + length above) weight t.operands)
items_plain zero flat weight marked es above l h g = (omega arith, g)
items_plain (suc count) zero weight marked es above l h g = absurd (omega (arith, l))
items_plain (suc count) (suc flat) weight marked (Item x ∷ es) above l h g =
    ok_map (λ t. AreKnown true (count + length (x ∷ above)) weight t.operands)
    (λ t. AreKnown true (suc count + length above) weight t.operands)
    (items count es (x ∷ above)) (λ t w. (omega (arith, w.0), w.1))
    (items_plain count flat weight marked es (x ∷ above) (omega (arith, l)) h.2 (h.0, h.1, g))
items_plain (suc count) (suc flat) weight marked (Mark ∷ es) above l h g = absurd h
items_plain (suc count) (suc flat) weight marked [] above l h g = absurd h

items_known : (count flat weight : ℕ) (marked : Bool) (es : List (Entry Heft))
    → AreFlat weight flat marked es
    → IfOk (items count es []) (λ t. AreKnown (leb count flat) (count + 0) weight t.operands)
items_known count flat weight marked es h = either (leb count flat) refl
  where
    either : (q : Bool) → leb count flat ≡ q
        → IfOk (items count es []) (λ t. AreKnown q (count + 0) weight t.operands)
    either true e = items_plain count flat weight marked es [] (leb-true count flat e) h tt
    either false e = every_ok (λ t. Unit {0}) (items count es []) (λ t. tt)

-- all objects above a mark that is known to be there are such objects
slice_known : (flat weight : ℕ) (marked : Bool) (es : List (Entry Heft)) (above : List Heft)
    → AreFlat weight flat marked es → ArePlain weight above
    → IfOk (slice es above) (λ t. AreKnown marked (flat + length above) weight t.operands)
slice_known flat weight false es above h g =
    every_ok (λ t. Unit {0}) (slice es above) (λ t. tt)
slice_known zero weight true (Mark ∷ es) above h g = (omega arith, g)
slice_known zero weight true (Item x ∷ es) above h g = absurd h
slice_known zero weight true [] above h g = absurd h
slice_known (suc flat) weight true (Item x ∷ es) above h g =
    ok_map (λ t. AreKnown true (flat + length (x ∷ above)) weight t.operands)
    (λ t. AreKnown true (suc flat + length above) weight t.operands) (slice es (x ∷ above))
    (λ t w. (omega (arith, w.0), w.1))
    (slice_known flat weight true es (x ∷ above) h.2 (h.0, h.1, g))
slice_known (suc flat) weight true (Mark ∷ es) above h g = absurd h
slice_known (suc flat) weight true [] above h g = absurd h

-- what is known of the operands of a tuple holds of what an operation takes
pub operands_tied : (o : Op) (c : Ceiling) (es : List (Entry Heft))
    → AreFlat (plain_weight c) c.flat c.marked es
    → IfOk (taken_by (effect_of o) es) (λ t. AreTied o c t.operands)
operands_tied op.EmptyTuple c es h = (omega arith, tt)
operands_tied op.Tuple1 c es h = items_known 1 c.flat (plain_weight c) c.marked es h
operands_tied op.Tuple2 c es h = items_known 2 c.flat (plain_weight c) c.marked es h
operands_tied op.Tuple3 c es h = items_known 3 c.flat (plain_weight c) c.marked es h
operands_tied op.Tuple c es h =
    ok_then (λ t. AreKnown c.marked (c.flat + 0) (plain_weight c) t.operands)
    (λ t. AreKnown c.marked c.flat (plain_weight c) t.operands) (slice es []) (λ t. Ok t)
    (slice_known c.flat (plain_weight c) c.marked es [] h tt)
    (λ t w. same c.marked t.operands w)
  where
    same : (q : Bool) (hs : List Heft) → AreKnown q (c.flat + 0) (plain_weight c) hs
        → AreKnown q c.flat (plain_weight c) hs
    same true hs k = (omega (arith, k.0), k.1)
    same false hs k = tt
operands_tied o c es h = every_ok (λ t. Unit {0}) (taken_by (effect_of o) es) (λ t. tt)
