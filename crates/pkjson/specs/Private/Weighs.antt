-- The depth of a value, and the number of values in it.
use Rattle.std.specs.Prelude.{◌≡◌, ℕ, ◌^◌, min, ◌<◌, ◌≤◌, List, Some, slice_get}
use Rattle.serde_json.specs.Data.{Data, depth, Items, items_depth, Members, members_depth}
use Rattle.pkjson.specs.declared.judge.Weight.{Weight}
use Rattle.pkjson.specs.Unfolds.{Heap, Unfolds, UnfoldItems, UnfoldMembers, count, items_count}
use Rattle.pkjson.specs.Unfolds.{members_count}

-- an object's weight: its depth, and its count up to the cap
unfoldable pub Weighs : Heap → ℕ → ℕ → Weight → Type 0
Weighs h cap x w = (v : Data) × Unfolds h x v × (w.depth ≡ depth v) × (w.count ≡ min cap (count v))

-- the object has no value within this depth
unfoldable pub IsDeeper : Heap → ℕ → ℕ → Type 0
IsDeeper h levels x = (v : Data) → Unfolds h x v → levels < depth v

-- the weight of these items together
unfoldable pub ItemsWeigh : Heap → ℕ → List ℕ → Weight → Type 0
ItemsWeigh h cap xs w =
    (vs : Items)
    × UnfoldItems h xs vs
    × (w.depth ≡ items_depth vs)
    × (w.count ≡ min cap (items_count vs))

-- not all of these items have a value within this depth
unfoldable pub AreDeeper : Heap → ℕ → List ℕ → Type 0
AreDeeper h levels xs = (vs : Items) → UnfoldItems h xs vs → levels < items_depth vs

-- the weight of the values of these members together
unfoldable pub MembersWeigh : Heap → ℕ → List (List ℕ × ℕ) → Weight → Type 0
MembersWeigh h cap ps w =
    (ms : Members)
    × UnfoldMembers h ps ms
    × (w.depth ≡ members_depth ms)
    × (w.count ≡ min cap (members_count ms))

-- not all of these members have a value within this depth
unfoldable pub MembersDeeper : Heap → ℕ → List (List ℕ × ℕ) → Type 0
MembersDeeper h levels ps = (ms : Members) → UnfoldMembers h ps ms → levels < members_depth ms

-- what is recorded of an object that isn't weighed yet
abbrev pub no_weight : Weight
no_weight = record { depth = 0; count = 0; size = 0 }

-- each recorded weight is right
unfoldable pub IsTrusted : Heap → ℕ → List Weight → Type 0
IsTrusted h cap done =
    (x : ℕ) (w : Weight) → slice_get done x ≡ Some w → 0 < w.count → Weighs h cap x w

-- a weight of at most this depth, with a count up to the cap
pub record IsBounded (levels cap : ℕ) (w : Weight) : Type 0 where
  pub depth : w.depth ≤ levels
  pub count : w.count ≤ cap

-- the sum of two counts, and one more level, fit in 32 bits
pub record HaveRoom (levels cap : ℕ) : Type 0 where
  pub some : 0 < cap
  pub small : cap < 2 ^ 31
  pub shallow : levels < 2 ^ 30
