-- What the arena's fields stand for.
use Rattle.std.specs.Prelude.{◌≡◌, ◌≤◌, ◌<◌, ◌+◌, ℕ, List, [], ◌∷◌, length, map, take, drop, Option}
use Rattle.std.specs.Prelude.{Some, None, Result, Ok, string_bytes}
use Rattle.pkstack.specs.Shape.{Breach, Entry, Mark, Item, Shape, Taken}
use Rattle.serde_json.specs.Data.{null, boolean, number, string}
use Rattle.serde_json.specs.Find.{of_integer}
use Rattle.pkjson.specs.declared.objects.Object.{Object}
use Rattle.pkjson.specs.declared.objects.Object.TheVariants.{Items, Single, Pairs, Null}
use Rattle.pkjson.specs.declared.objects.Object.TheVariants.{Bool as Truth, Int, Lent, Decoded}
use Rattle.pkjson.specs.declared.slots.Slot.{Slot}
use Rattle.pkjson.specs.declared.slots.Slot.TheVariants as slot
use Rattle.pkjson.specs.Contents.{OfItems, OfPairs, OfValue}
use Rattle.pkjson.specs.Private.Arena.{Kept}
use Rattle.pkjson.specs.Private.PlainActions.{IsLacking}

-- the object that the program's `Object` stands for
abbrev pub kept_of : Object → Kept
kept_of (Items v) = record { kind = OfItems; given = v.items }
kept_of (Single n) = record { kind = OfItems; given = n ∷ [] }
kept_of (Pairs v) = record { kind = OfPairs; given = v.items }
kept_of Null = record { kind = OfValue null; given = [] }
kept_of (Truth b) = record { kind = OfValue (boolean b); given = [] }
kept_of (Int i) = record { kind = OfValue (number (of_integer i)); given = [] }
kept_of (Lent t) = record { kind = OfValue (string t.now); given = [] }
kept_of (Decoded t) = record { kind = OfValue (string (string_bytes t)); given = [] }

-- all objects
abbrev pub kept_all : List Object → List Kept
kept_all os = map kept_of os

-- the entry that the program's `Slot` stands for
abbrev pub seen_entry : Slot → Entry ℕ
seen_entry slot.Mark = Mark
seen_entry (slot.Object n) = Item n

-- these slots, the last on top, above the others
abbrev pub seen_entries : List Slot → List (Entry ℕ) → List (Entry ℕ)
seen_entries [] below = below
seen_entries (s ∷ ss) below = seen_entries ss (seen_entry s ∷ below)

-- the objects among the slots
abbrev pub numbers_of : List Slot → List ℕ
numbers_of [] = []
numbers_of (slot.Mark ∷ ss) = numbers_of ss
numbers_of (slot.Object n ∷ ss) = n ∷ numbers_of ss

-- the stack, split at a place: the slots from it on, and those below it
abbrev pub taken_at : ℕ → List Slot → Taken ℕ
taken_at place ss =
    record { operands = numbers_of (drop place ss); below = seen_entries (take place ss) [] }

-- the place where the operands begin, or `None` if something is missing
abbrev pub FindsPlace : Result (Taken ℕ) Breach → List Slot → Option ℕ → Type 0
FindsPlace x ss None = IsLacking x
FindsPlace x ss (Some n) = (n ≤ length ss) × (x ≡ Ok (taken_at n ss))

-- the place where the operands begin, with the number of the object there, or `None` if something
-- is missing
abbrev pub FindsObject : Result (Taken ℕ) Breach → List Slot → Option (ℕ × ℕ) → Type 0
FindsObject x ss None = IsLacking x
FindsObject x ss (Some p) =
    (p.0 < length ss)
    × (x ≡ Ok (record {
      operands = p.1 ∷ numbers_of (drop (p.0 + 1) ss);
      below = seen_entries (take p.0 ss) [];
    }))
    × (seen_entries (take (p.0 + 1) ss) [] ≡ Item p.1 ∷ seen_entries (take p.0 ss) [])

-- the stack and the memo that the fields stand for
abbrev pub shape_seen : List Slot → List (ℕ × ℕ) → Shape ℕ
shape_seen ss cells = record { entries = seen_entries ss []; memo = cells }
