-- Objects that have a value within a depth.
use Rattle.std.specs.Prelude.{ℕ, ◌≤◌, List}
use Rattle.serde_json.specs.Data.{Data, depth, Items, items_depth, Members, members_depth}
use Rattle.pkjson.specs.Unfolds.{Heap, Unfolds, UnfoldItems, UnfoldMembers}

-- the object has a value within the depth
unfoldable pub Fits : Heap → ℕ → ℕ → Type 0
Fits h levels x = (v : Data) × Unfolds h x v × (depth v ≤ levels)

-- each of these objects has a value within the depth
unfoldable pub ItemsFit : Heap → ℕ → List ℕ → Type 0
ItemsFit h levels xs = (vs : Items) × UnfoldItems h xs vs × (items_depth vs ≤ levels)

-- each of these members has a value within the depth
unfoldable pub MembersFit : Heap → ℕ → List (List ℕ × ℕ) → Type 0
MembersFit h levels ps = (ms : Members) × UnfoldMembers h ps ms × (members_depth ms ≤ levels)
