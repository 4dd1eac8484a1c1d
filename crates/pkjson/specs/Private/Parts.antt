-- The parts of a value, and the events and the text of each.
use Rattle.std.specs.Prelude.{◌≡◌, ℕ, ◌<◌, List, All}
use Rattle.serde.specs.Event.{Log}
use Rattle.serde_json.specs.Data.{array, object, Items, Members}
use Rattle.serde_json.specs.Written.{compact_text}
use Rattle.pkjson.specs.declared.writing.Part.{Part}
use Rattle.pkjson.specs.declared.writing.Part.TheVariants as part
use Rattle.pkjson.specs.Unfolds.{Heap, UnfoldItems, UnfoldMembers}
use Rattle.pkjson.specs.Private.Fits.{Fits, ItemsFit, MembersFit}
use Rattle.pkjson.specs.Private.Nodes.{named_members}
use Rattle.pkjson.specs.Private.Sends.{IsCompact, Sends, SendsArray, SendsObject}

-- the part names only objects with numbers below n
abbrev pub IsPartBelow : ℕ → Part → Type 0
IsPartBelow n (part.Object x) = x < n
IsPartBelow n (part.Items xs) = All (λ x. x < n) xs.now
IsPartBelow n (part.Members ps) = All (λ p. p.1 < n) ps.now

-- its objects have values within the depth
abbrev pub PartFits : Heap → ℕ → Part → Type 0
PartFits h levels (part.Object x) = Fits h levels x
PartFits h levels (part.Items xs) = ItemsFit h levels xs.now
PartFits h levels (part.Members ps) = MembersFit h levels (named_members ps.now)

-- the new events are those of the part
abbrev pub SendsPart : Heap → Part → Log → Log → Type 0
SendsPart h (part.Object x) = Sends h x
SendsPart h (part.Items xs) = SendsArray h xs.now
SendsPart h (part.Members ps) = SendsObject h (named_members ps.now)

-- the text is the compact JSON of an array of the values of these objects
unfoldable pub IsArrayText : Heap → List ℕ → List ℕ → Type 0
IsArrayText h xs text = (vs : Items) × UnfoldItems h xs vs × (text ≡ compact_text (array vs))

-- the text is the compact JSON of an object with these members
unfoldable pub IsObjectText : Heap → List (List ℕ × ℕ) → List ℕ → Type 0
IsObjectText h ps text = (ms : Members) × UnfoldMembers h ps ms × (text ≡ compact_text (object ms))

-- the text is that of the part
abbrev pub IsPartText : Heap → Part → List ℕ → Type 0
IsPartText h (part.Object x) = IsCompact h x
IsPartText h (part.Items xs) = IsArrayText h xs.now
IsPartText h (part.Members ps) = IsObjectText h (named_members ps.now)
