-- What all objects on the stack weigh together, and how an instruction changes it.
use Rattle.std.proofs.Common.{◌≡◌, ◌≤◌, ℕ, zero, suc, ◌+◌, Bool, true, false, cond, List, []}
use Rattle.std.proofs.Common.{◌∷◌, ◌++◌, length, Option, Some, None, Result, Ok, IfOk, refl}
use Rattle.std.proofs.Common.{arith}
use Rattle.pkops.specs.Spelling.{Argument, Instruction, instruction, spelling}
use Rattle.pkops.specs.declared.Op.{Op}
use Rattle.pkops.specs.declared.Op.TheVariants as op
use Rattle.pkmachine.specs.AlikeLaws.{SameResult}
use Rattle.pkmachine.specs.Covers.{Alike, AlikeEntry, Pointwise}
use Rattle.pkmachine.specs.Effects.{Effect, Operates, effect_of}
use Rattle.pkstack.specs.declared.Move.{Move}
use Rattle.pkstack.specs.declared.Move.TheVariants.{PushesMark, Pops, PopsMark, Duplicates, Stores}
use Rattle.pkstack.specs.declared.Move.TheVariants.{StoresNext, Fetches, NoOp, Extends}
use Rattle.pkstack.specs.declared.Takes.{Takes}
use Rattle.pkstack.specs.declared.Takes.TheVariants.{Objects, Slice, SliceAndReceiver}
use Rattle.pkstack.specs.Shape.{Breach, Entry, Mark, Item, Shape, Taken, breaks, fetched, front}
use Rattle.pkstack.specs.Shape.{items, moved, operands, popped, put, recalled, slice, storing, top}
use Rattle.pkload.proofs.Few.{ok_map, ok_then, ok_unless}
use Rattle.pkload.proofs.Flat.{every_ok}
use Rattle.pkload.proofs.Linear.{spelled_long}
use Rattle.pkload.proofs.Under.{IsUnder}
use Rattle.pkload.specs.Bill.{heft_given}
use Rattle.pkload.specs.Heft.{Heft, argument_size, heft_of, weights_of}
use Rattle.pkload.specs.Keys.{behind_first, every_other, keys_of}
use Rattle.pkload.specs.declared.ceiling.Ceiling.{Ceiling}
use Rattle.pkload.specs.Private.Ceiling.{heaviest}

-- the weights of all objects on the stack together
abbrev pub weights_on : List (Entry Heft) → ℕ
weights_on [] = 0
weights_on (Mark ∷ es) = weights_on es
weights_on (Item x ∷ es) = x.weight + weights_on es

pub weights_append : (es fs : List (Entry Heft))
    → weights_on (es ++ fs) ≡ weights_on es + weights_on fs
weights_append [] fs = omega arith
weights_append (Mark ∷ es) fs = weights_append es fs
weights_append (Item x ∷ es) fs = omega (arith, weights_append es fs)

-- ---- what operations take

-- operands and the entries below them weigh at most so much
abbrev pub Weighs : ℕ → Taken Heft → Type 0
Weighs most t = weights_of t.operands + weights_on t.below ≤ most

items_weigh : (count : ℕ) (es : List (Entry Heft)) (above : List Heft)
    → IfOk (items count es above) (Weighs (weights_on es + weights_of above))
items_weigh zero es above = omega arith
items_weigh (suc count) [] above = tt
items_weigh (suc count) (Mark ∷ es) above = tt
items_weigh (suc count) (Item x ∷ es) above =
    ok_map (Weighs (weights_on es + weights_of (x ∷ above)))
    (Weighs (weights_on (Item x ∷ es) + weights_of above)) (items count es (x ∷ above))
    (λ t w. omega (arith, w)) (items_weigh count es (x ∷ above))

slice_weighs : (es : List (Entry Heft)) (above : List Heft)
    → IfOk (slice es above) (Weighs (weights_on es + weights_of above))
slice_weighs [] above = tt
slice_weighs (Mark ∷ es) above = omega arith
slice_weighs (Item x ∷ es) above =
    ok_map (Weighs (weights_on es + weights_of (x ∷ above)))
    (Weighs (weights_on (Item x ∷ es) + weights_of above)) (slice es (x ∷ above))
    (λ t w. omega (arith, w)) (slice_weighs es (x ∷ above))

-- operands weigh what they did on the stack
pub operands_weigh : (takes : Takes) (es : List (Entry Heft))
    → IfOk (operands takes es) (Weighs (weights_on es))
operands_weigh (Objects count) es =
    ok_map (Weighs (weights_on es + 0)) (Weighs (weights_on es)) (items count es [])
    (λ t w. omega (arith, w)) (items_weigh count es [])
operands_weigh (Slice rule) es =
    ok_then (Weighs (weights_on es + 0)) (Weighs (weights_on es)) (slice es []) _
    (slice_weighs es [])
    (λ t w. ok_unless (Weighs (weights_on es)) (breaks rule t.operands) (Ok t) (omega (arith, w)))
operands_weigh (SliceAndReceiver rule) es =
    ok_then (Weighs (weights_on es + 0)) (Weighs (weights_on es)) (slice es []) _
    (slice_weighs es [])
    (λ t w. ok_then (Weighs (weights_on t.below + weights_of t.operands))
    (Weighs (weights_on es)) (items 1 t.below t.operands) _ (items_weigh 1 t.below t.operands)
    (λ v g. ok_unless (Weighs (weights_on es)) (breaks rule t.operands) (Ok v)
    (omega (arith, w, g))))

-- ---- what operations leave

-- the first operand and the rest are all
front_weighs : (xs : List Heft)
    → weights_on (front xs) + weights_of (behind_first xs) ≡ weights_of xs
front_weighs [] = refl
front_weighs (x ∷ xs) = omega arith

others_weigh : (xs : List Heft) → weights_of (every_other xs) ≤ weights_of xs
others_weigh [] = omega arith
others_weigh (x ∷ []) = omega arith
others_weigh (x ∷ y ∷ xs) = omega (arith, others_weigh xs)

-- what an instruction with this effect leaves of its operands weighs so much
abbrev pub weight_left : Effect → Instruction → List Heft → ℕ
weight_left (Operates takes names gives) i xs = weights_on (put (heft_given gives i xs) xs)
weight_left effect i xs = 0

-- an opcode whose operands are keys, and are held too
abbrev pub hold_keys : Op → Bool
hold_keys op.FrozenSet = true
hold_keys _ = false

left_by : (o : Op) (a : Argument) (xs : List Heft)
    → 1 + argument_size a ≤ length (spelling (instruction o a))
    → weight_left (effect_of o) (instruction o a) xs + weights_of (keys_of o xs)
    ≤ weights_of xs + length (spelling (instruction o a))
    + cond (hold_keys o) (heft_of (instruction o a) xs).weight 0
left_by op.Append a xs l = omega (arith, front_weighs xs)
left_by op.Appends a xs l = omega (arith, front_weighs xs)
left_by op.Build a xs l = omega (arith, front_weighs xs)
left_by op.SetItem a xs l = omega (arith, front_weighs xs, others_weigh (behind_first xs))
left_by op.SetItems a xs l = omega (arith, front_weighs xs, others_weigh (behind_first xs))
left_by op.AddItems a xs l = omega (arith, front_weighs xs)
left_by op.Dict a xs l = omega (arith, l, others_weigh xs)
left_by o a xs l = omega (arith, l)

-- what an instruction leaves and its keys weigh at most what its operands do, and a byte of the
-- instruction each. A frozenset weighs as much as its keys once more
pub all_left : (i : Instruction) (xs : List Heft)
    → weight_left (effect_of i.op) i xs + weights_of (keys_of i.op xs)
    ≤ weights_of xs + length (spelling i) + cond (hold_keys i.op) (heft_of i xs).weight 0
all_left i xs = left_by i.op i.arg xs (spelled_long i)

-- ---- moves

-- a move that pushes an object which lies elsewhere too
abbrev pub doubles : Move → Bool
doubles Duplicates = true
doubles Fetches = true
doubles _ = false

module _ (c : Ceiling) where
  -- a move adds at most the weight of one object, and only if it doubles one
  abbrev pub Grows : Move → Shape Heft → Result (Shape Heft) Breach → Type 0
  Grows m s x = IfOk x (λ t.
      weights_on t.entries ≤ weights_on s.entries + cond (doubles m) (heaviest c) 0)

  popped_weigh : (es : List (Entry Heft)) (s : Shape Heft) → weights_on es ≤ weights_on s.entries
      → Grows Pops s (popped es s)
  popped_weigh [] s l = tt
  popped_weigh (Mark ∷ es) s l = omega (arith, l)
  popped_weigh (Item x ∷ es) s l = omega (arith, l)

  fetched_weigh : (o : Option Heft) (n : ℕ) (s : Shape Heft)
      → SameResult (Alike (IsUnder c)) (fetched o n s) (fetched o n s)
      → Grows Fetches s (fetched o n s)
  fetched_weigh None n s u = tt
  fetched_weigh (Some x) n s u = omega (arith, u.entries.0.weight)

  top_weighs : (es : List (Entry Heft)) → Pointwise (AlikeEntry (IsUnder c)) es es
      → IfOk (top es) (λ t. t.0.weight ≤ heaviest c)
  top_weighs [] u = tt
  top_weighs (Mark ∷ es) u = tt
  top_weighs (Item x ∷ es) u = u.0.weight

  stored_weigh : (n : ℕ) (s : Shape Heft)
      → IfOk (storing n s) (λ t. weights_on t.entries ≤ weights_on s.entries + 0)
  stored_weigh n s =
      ok_then (λ t. Unit {0}) (λ t. weights_on t.entries ≤ weights_on s.entries + 0)
      (top s.entries) _ (every_ok (λ t. Unit {0}) (top s.entries) (λ t. tt)) (λ t w. omega arith)

  pub moved_weigh : (m : Move) (n : ℕ) (s : Shape Heft) → Alike (IsUnder c) s s
      → SameResult (Alike (IsUnder c)) (moved m n s) (moved m n s) → Grows m s (moved m n s)
  moved_weigh PushesMark n s u g = omega arith
  moved_weigh Pops n s u g = popped_weigh s.entries s (omega arith)
  moved_weigh PopsMark n s u g =
      ok_then (Weighs (weights_on s.entries + 0))
      (λ t. weights_on t.entries ≤ weights_on s.entries + 0) (slice s.entries []) _
      (slice_weighs s.entries []) (λ t w. omega (arith, w))
  moved_weigh Duplicates n s u g =
      ok_then (λ t. t.0.weight ≤ heaviest c)
      (λ t. weights_on t.entries ≤ weights_on s.entries + heaviest c) (top s.entries) _
      (top_weighs s.entries u.entries) (λ t w. omega (arith, w))
  moved_weigh Stores n s u g = stored_weigh n s
  moved_weigh StoresNext n s u g = stored_weigh (length s.memo) s
  moved_weigh Fetches n s u g = fetched_weigh (recalled n s.memo) n s g
  moved_weigh NoOp n s u g = omega arith
  moved_weigh Extends n s u g = tt
