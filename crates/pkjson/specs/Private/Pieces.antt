-- The text of a value that is written in pieces.
use Rattle.std.specs.Prelude.{◌≡◌, ℕ, Bool, true, false, List, [], ◌∷◌, ◌++◌, Option}
use Rattle.std.specs.Prelude.{Result, Ok, Err}
use Rattle.std.specs.Io.KnownBytes.{Appends}
use Rattle.serde_json.specs.Data.{Data, string, Items, no_items, item, Members, no_members, member}
use Rattle.serde_json.specs.Written.{comma_if, compact_text}
use Rattle.pkjson.specs.declared.error.ExportError.{ExportError}
use Rattle.pkjson.specs.declared.error.ExportError.TheVariants.{OutOfMemory}
use Rattle.pkjson.specs.declared.writing.Part.{Part}
use Rattle.pkjson.specs.declared.writing.Part.TheVariants as part
use Rattle.pkjson.specs.Unfolds.{Heap, Unfolds, UnfoldItems, UnfoldMembers}
use Rattle.pkjson.specs.Private.Nodes.{named_members}

-- the text of an array without its brackets, after a comma if `later`
abbrev pub items_inside : Bool → Items → List ℕ
items_inside later no_items = []
items_inside later (item v vs) = comma_if later ++ (compact_text v ++ items_inside true vs)

-- the text of an object without its braces, after a comma if `later`
abbrev pub members_inside : Bool → Members → List ℕ
members_inside later no_members = []
members_inside later (member k v ms) =
    comma_if later
    ++ (compact_text (string k) ++ 58 ∷ (compact_text v ++ members_inside true ms))

-- the text of the object's value was written
unfoldable pub Writes : Heap → ℕ → Option (List ℕ) → Option (List ℕ) → Type 0
Writes h x old new = (v : Data) × Unfolds h x v × Appends old new (compact_text v)

-- the text of the object's value was written, or, without memory for it, nothing
abbrev pub IsWhole
    : Heap → ℕ → Option (List ℕ) → Option (List ℕ) → Result (Unit {0}) ExportError → Type 0
IsWhole h x old new (Ok u) = Writes h x old new
IsWhole h x old new (Err error) = (error ≡ OutOfMemory) × (new ≡ old)

-- the text of an array of the values of these objects was written, without its brackets
unfoldable pub WritesItems : Heap → List ℕ → Option (List ℕ) → Option (List ℕ) → Type 0
WritesItems h xs old new =
    (vs : Items) × UnfoldItems h xs vs × Appends old new (items_inside false vs)

-- the text of an object with these members was written, without its braces
unfoldable pub WritesMembers
    : Heap → List (List ℕ × ℕ) → Option (List ℕ) → Option (List ℕ) → Type 0
WritesMembers h ps old new =
    (ms : Members) × UnfoldMembers h ps ms × Appends old new (members_inside false ms)

-- the text of the part was written, without brackets or braces
abbrev pub WritesPart : Heap → Part → Option (List ℕ) → Option (List ℕ) → Type 0
WritesPart h (part.Object x) = Writes h x
WritesPart h (part.Items xs) = WritesItems h xs.now
WritesPart h (part.Members ps) = WritesMembers h (named_members ps.now)
