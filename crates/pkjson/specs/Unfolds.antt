-- What an object unfolds to.
use Rattle.std.specs.Prelude.{◌≡◌, ℕ, suc, ◌+◌, List, [], ◌∷◌, Option, Some}
use Rattle.serde_json.specs.Data.{Data, array, object, Items, no_items, item, Members, no_members}
use Rattle.serde_json.specs.Data.{member}

-- the contents of an object in its final state
pub data Content : Type 0 where
  Scalar : Data → Content
  Sequence : List ℕ → Content
  Pairs : List (List ℕ × ℕ) → Content

-- the contents of each object, by number
abbrev pub Heap : Type 0
Heap = ℕ → Option Content

-- the value that an object unfolds to; values are finite, so an object that contains itself has
-- none
abbrev mutual
  pub Unfolds : Heap → ℕ → Data → Type 0
  Unfolds h x (array vs) = (xs : List ℕ) × (h x ≡ Some (Sequence xs)) × UnfoldItems h xs vs
  Unfolds h x (object ms) =
      (ps : List (List ℕ × ℕ)) × (h x ≡ Some (Pairs ps)) × UnfoldMembers h ps ms
  Unfolds h x v = h x ≡ Some (Scalar v)

  pub UnfoldItems : Heap → List ℕ → Items → Type 0
  UnfoldItems h [] no_items = Unit {0}
  UnfoldItems h (x ∷ xs) (item v vs) = Unfolds h x v × UnfoldItems h xs vs
  UnfoldItems h xs vs = ⊥

  pub UnfoldMembers : Heap → List (List ℕ × ℕ) → Members → Type 0
  UnfoldMembers h [] no_members = Unit {0}
  UnfoldMembers h (p ∷ ps) (member k v ms) = (p.0 ≡ k) × Unfolds h p.1 v × UnfoldMembers h ps ms
  UnfoldMembers h ps ms = ⊥

-- the number of values in a value; keys don't count
abbrev mutual
  pub count : Data → ℕ
  count (array vs) = suc (items_count vs)
  count (object ms) = suc (members_count ms)
  count v = 1

  pub items_count : Items → ℕ
  items_count no_items = 0
  items_count (item v vs) = count v + items_count vs

  pub members_count : Members → ℕ
  members_count no_members = 0
  members_count (member k v ms) = count v + members_count ms
