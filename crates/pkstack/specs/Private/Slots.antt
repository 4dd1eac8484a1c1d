-- What the entries of the stack's store mean.
use Rattle.std.specs.Prelude.{ℕ, zero, suc, ◌≡◌, ◌<◌, ◌≤◌, ◌-◌, ◌%◌, eqb, if◌then◌else◌, List, []}
use Rattle.std.specs.Prelude.{◌∷◌, length, ⊤, drop, take, get_or, Option, Some, None}
use Rattle.pkstack.specs.declared.cells.Slot.{Slot}
use Rattle.pkstack.specs.declared.cells.Slot.TheVariants as slot
use Rattle.pkstack.specs.declared.takes.Takes.{Takes}
use Rattle.pkstack.specs.declared.takes.Takes.TheVariants.{Objects, Slice, SliceAndReceiver}
use Rattle.pkstack.specs.declared.takes.SliceRule.{SliceRule}
use Rattle.pkstack.specs.declared.takes.SliceRule.TheVariants.{AnySlice, EvenSlice, FullSlice}
use Rattle.pkstack.specs.Shape.{Breach, NoItem, Odd, Entry, Mark, Item, Taken}

module _ {A : Type 0} where
  -- the entry that a slot means
  abbrev pub entry_of : Slot A → Entry A
  entry_of slot.Mark = Mark
  entry_of (slot.Object v) = Item v

  -- these entries, the last one on top, above the entries `below`
  abbrev pub shown : List (Slot A) → List (Entry A) → List (Entry A)
  shown [] below = below
  shown (s ∷ ss) below = shown ss (entry_of s ∷ below)

  -- the objects among the entries, in order
  abbrev pub values_of : List (Slot A) → List A
  values_of [] = []
  values_of (slot.Mark ∷ ss) = values_of ss
  values_of (slot.Object v ∷ ss) = v ∷ values_of ss

  -- the objects from a place on, and the entries below it
  abbrev pub taken_from : ℕ → List (Slot A) → Taken A
  taken_from place slots = record {
    operands = values_of (drop place slots);
    below = shown (take place slots) [];
  }

  -- the places of the marks, counted from n
  abbrev pub bars : ℕ → List (Slot A) → List ℕ
  bars n [] = []
  bars n (slot.Mark ∷ ss) = n ∷ bars (suc n) ss
  bars n (slot.Object v ∷ ss) = bars (suc n) ss

  -- none of these entries is a mark
  abbrev pub AllObjects : List (Slot A) → Type 0
  AllObjects [] = ⊤
  AllObjects (slot.Mark ∷ ss) = ⊥
  AllObjects (slot.Object v ∷ ss) = AllObjects ss

  -- the first of these entries is an object
  abbrev pub FirstObject : List (Slot A) → Type 0
  FirstObject (slot.Object v ∷ ss) = ⊤
  FirstObject ss = ⊥

  -- the entries are right for this operation: k objects, any slice, or a slice with an object first
  abbrev pub StartsWell : Takes → List (Slot A) → Type 0
  StartsWell (Objects k) ss = (length ss ≡ k) × AllObjects ss
  StartsWell (Slice rule) ss = ⊤
  StartsWell (SliceAndReceiver rule) ss = FirstObject ss

-- what is missing if a slice of this many objects breaks its rule
abbrev pub breach_of : SliceRule → ℕ → Option Breach
breach_of AnySlice count = None
breach_of EvenSlice count = if eqb (count % 2) 0 then None else Some Odd
breach_of FullSlice zero = Some NoItem
breach_of FullSlice (suc count) = None

-- of these places, exactly the first j are below n
pub record IsCut (places : List ℕ) (n j : ℕ) : Type 0 where
  pub within : j ≤ length places
  pub past : (i : ℕ) → j ≤ i → i < length places → n ≤ get_or places i 0
  pub before : 0 < j → get_or places (j - 1) 0 < n
