-- Places on a stack. A place is the number of entries below it.
use Rattle.std.specs.Prelude.{ℕ, ◌≡◌, ◌<◌, List, [], ◌∷◌, ◌++◌, ◌+◌, ◌-◌, length, take, drop, Ok}
use Rattle.std.specs.Prelude.{⊤, ◌⊎◌}
use Rattle.pkstack.specs.declared.takes.Takes.{Takes}
use Rattle.pkstack.specs.declared.takes.Takes.TheVariants.{Objects, Slice, SliceAndReceiver}
use Rattle.pkstack.specs.Shape.{Entry, Mark, Item, front, items, marks_of}

module _ {A : Type 0} where
  -- the entries below a place
  abbrev pub below : ℕ → List (Entry A) → List (Entry A)
  below place es = drop (length es - place) es

  -- the items among these entries, from the bottom up, followed by those above
  abbrev pub from_bottom : List (Entry A) → List A → List A
  from_bottom [] above = above
  from_bottom (Item x ∷ es) above = from_bottom es (x ∷ above)
  from_bottom (Mark ∷ es) above = from_bottom es above

  -- the items above a place, from the bottom up
  abbrev pub above : ℕ → List (Entry A) → List A
  above place es = from_bottom (take (length es - place) es) []

  -- the topmost `count` entries are items, and the lowest one has this place
  pub record ItemsFrom (count place : ℕ) (es : List (Entry A)) : Type 0 where
    pub found : items count es []
        ≡ Ok (record { operands = above place es; below = below place es })
    pub marks : marks_of es ≡ marks_of (below place es)
    pub there : 0 < count → place < length es
    pub first : 0 < count → below (place + 1) es ≡ front (above place es) ++ below place es

-- an operation that takes at least one item
abbrev pub HasFirst : Takes → Type 0
HasFirst (Objects k) = 0 < k
HasFirst (Slice rule) = ⊥
HasFirst (SliceAndReceiver rule) = ⊤

-- one, two or three
abbrev pub IsFew : ℕ → Type 0
IsFew count = (count ≡ 1) ⊎ ((count ≡ 2) ⊎ (count ≡ 3))
