-- The value of an object within the limits, or why it has none.
use Rattle.std.specs.Prelude.{◌≡◌, ◌≢◌, ◌⊎◌, ℕ, ◌<◌, ◌≤◌, List, Option, Result, Ok, Err}
use Rattle.std.specs.Io.KnownBytes.{Appends}
use Rattle.serde_json.specs.Data.{Data, depth}
use Rattle.serde_json.specs.Written.{compact_text}
use Rattle.pkops.specs.Limits.{Bounds}
use Rattle.pkops.specs.declared.Reason.{Reason}
use Rattle.pkops.specs.declared.Reason.TheVariants as reason
use Rattle.pkjson.specs.declared.error.ExportError.{ExportError}
use Rattle.pkjson.specs.declared.error.ExportError.TheVariants.{Check, TooDeep, TooMany}
use Rattle.pkjson.specs.declared.error.ExportError.TheVariants.{OutOfMemory}
use Rattle.pkjson.specs.Unfolds.{Heap, Unfolds, count}

-- the object has this value, within the limits
abbrev pub IsValue : Heap → ℕ → ℕ → ℕ → Data → Type 0
IsValue h deepest most x v = Unfolds h x v × (depth v ≤ deepest) × (count v ≤ most)

-- the object has a value within the limits
abbrev pub HasValue : Heap → ℕ → ℕ → ℕ → Type 0
HasValue h deepest most x = (v : Data) × IsValue h deepest most x v

-- the text of the object's value
abbrev pub IsText : Heap → ℕ → ℕ → ℕ → List ℕ → Type 0
IsText h deepest most x text = (v : Data) × IsValue h deepest most x v × (text ≡ compact_text v)

-- why the object has no value within the limits
abbrev pub IsTooLarge : Heap → ℕ → ℕ → ℕ → ExportError → Type 0
IsTooLarge h deepest most x TooDeep = (v : Data) → Unfolds h x v → deepest < depth v
IsTooLarge h deepest most x TooMany =
    (v : Data) × Unfolds h x v × (depth v ≤ deepest) × (most < count v)
IsTooLarge h deepest most x OutOfMemory = Unit {0}
IsTooLarge h deepest most x e = ⊥

-- the text of the object's value was written, or there is none and nothing was written
abbrev pub IsAnswered
    : Heap → Bounds → ℕ → Option (List ℕ) → Option (List ℕ) → Result (Unit {0}) ExportError → Type 0
IsAnswered h limits x old new (Ok u) =
    (text : List ℕ) × IsText h limits.depth limits.values x text × Appends old new text
IsAnswered h limits x old new (Err e) =
    IsTooLarge h limits.depth limits.values x e × (new ≡ old)

-- the error for a refusal; a refused allocation has its own
abbrev pub TellsRefusal : ℕ → Reason → ExportError → Type 0
TellsRefusal at why e =
    (e ≡ OutOfMemory)
    ⊎ ((why ≢ reason.OutOfMemory) × (e ≡ Check (record { at = at; reason = why })))
