-- The events that serde receives for an object's value, and the text they produce.
use Rattle.std.specs.Prelude.{◌≡◌, ℕ, List}
use Rattle.serde.specs.Event.{Log}
use Rattle.serde_json.specs.Data.{Data, array, object, Items, Members}
use Rattle.serde_json.specs.Events.{SendsValue}
use Rattle.serde_json.specs.Written.{compact_text}
use Rattle.pkjson.specs.Unfolds.{Heap, Unfolds, UnfoldItems, UnfoldMembers}

-- the new events are those of the object's value
unfoldable pub Sends : Heap → ℕ → Log → Log → Type 0
Sends h x old new = (v : Data) × Unfolds h x v × SendsValue v old new

-- the new events are those of an array with the values of these objects
unfoldable pub SendsArray : Heap → List ℕ → Log → Log → Type 0
SendsArray h xs old new = (vs : Items) × UnfoldItems h xs vs × SendsValue (array vs) old new

-- the new events are those of an object with these members
unfoldable pub SendsObject : Heap → List (List ℕ × ℕ) → Log → Log → Type 0
SendsObject h ps old new = (ms : Members) × UnfoldMembers h ps ms × SendsValue (object ms) old new

-- the text is the compact JSON of the object's value
unfoldable pub IsCompact : Heap → ℕ → List ℕ → Type 0
IsCompact h x text = (v : Data) × Unfolds h x v × (text ≡ compact_text v)
