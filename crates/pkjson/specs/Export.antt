-- What the answers of an export mean.
use Rattle.std.specs.Prelude.{◌≡◌, ◌≢◌, ℕ, ◌<◌, ◌≤◌, false, List, Option, Some, None}
use Rattle.std.specs.Io.KnownBytes.{Appends}
use Rattle.serde_json.specs.Data.{Data, depth}
use Rattle.serde_json.specs.Written.{compact_text, has_float}
use Rattle.pkops.specs.Limits.{Bounds, holding_all}
use Rattle.pkops.specs.Spelling.{Instruction}
use Rattle.pkops.specs.declared.Reason.TheVariants as reason
use Rattle.pkread.specs.Rows.{Sight, in_memory}
use Rattle.pkmachine.specs.declared.OldStrings.TheVariants.{Unknown}
use Rattle.pkcheck.specs.Accepted.{Accepted}
use Rattle.pkcheck.specs.Refused.{Refused}
use Rattle.pkimport.specs.Import.{Asked}
use Rattle.pkmachine.specs.Runs.{Event, State, Stopped, start}
use Rattle.pkmachine.specs.WholeRuns.{EndedBy}
use Rattle.pkjson.specs.declared.error.ExportError.{ExportError}
use Rattle.pkjson.specs.declared.error.ExportError.TheVariants.{Check, NotPlain, Key, Number}
use Rattle.pkjson.specs.declared.error.ExportError.TheVariants.{TooDeep, TooMany, OutOfMemory}
use Rattle.pkjson.specs.Unfolds.{Unfolds, count}
use Rattle.pkjson.specs.Contents.{contents}
use Rattle.pkjson.specs.Plain.{Fault, OtherOpcode, OtherKey, LargeNumber, plain_run, first_fault}

-- a check that permits every import, with one limit for all payloads, accepts the pickle at the
-- front of the bytes; these are its instructions
pub record AcceptedAs (limits : Bounds) (bytes : List ℕ) (p : List Instruction) : Type 0 where
  pub new : Sight
  pub taken : ℕ
  pub imports : List Asked
  pub accepted : Accepted Unknown None (holding_all limits) (in_memory bytes) new taken imports
  pub is : accepted.instructions ≡ p

-- the bytes begin with an accepted pickle
abbrev pub IsAccepted : Bounds → List ℕ → Type 0
IsAccepted limits bytes = (p : List Instruction) × AcceptedAs limits bytes p

-- this is the first fault of the accepted pickle
abbrev pub FaultsAt : Bounds → List ℕ → ℕ → Fault → Type 0
FaultsAt limits bytes at fault =
    (p : List Instruction)
    × AcceptedAs limits bytes p
    × (first_fault 0 p start ≡ Some (at, fault))

-- the accepted pickle is plain data, and its plain run ends with this object after these events
pub record Results (limits : Bounds) (bytes : List ℕ) (x : ℕ) (events : List Event) : Type 0 where
  pub instructions : List Instruction
  pub accepted : AcceptedAs limits bytes instructions
  pub plain : first_fault 0 instructions start ≡ None
  pub state : State
  pub run : plain_run instructions start ≡ EndedBy (Stopped x state)
  pub seen : state.events ≡ events

-- the pickle's result unfolds to this value, which is within the limits
pub record IsValueOf (limits : Bounds) (bytes : List ℕ) (v : Data) : Type 0 where
  pub object : ℕ
  pub events : List Event
  pub results : Results limits bytes object events
  pub unfolds : Unfolds (contents events) object v
  pub shallow : depth v ≤ limits.depth
  pub few : count v ≤ limits.values
  -- it contains no float, so serde_json's `to_string` and `compact_text` agree on its text
  pub floatless : has_float v ≡ false

-- the compact JSON text of that value
abbrev pub IsTextOf : Bounds → List ℕ → List ℕ → Type 0
IsTextOf limits bytes text = (v : Data) × IsValueOf limits bytes v × (text ≡ compact_text v)

-- that text was written
abbrev pub AppendsText : Bounds → List ℕ → Option (List ℕ) → Option (List ℕ) → Type 0
AppendsText limits bytes old new =
    (text : List ℕ) × IsTextOf limits bytes text × Appends old new text

-- the result has no value within the depth limit, because it contains itself or nests too deeply
pub record IsTooDeep (limits : Bounds) (bytes : List ℕ) : Type 0 where
  pub object : ℕ
  pub events : List Event
  pub results : Results limits bytes object events
  pub deep : (v : Data) → Unfolds (contents events) object v → limits.depth < depth v

-- the result has a value within the depth limit, but with too many values in it
pub record HasTooMany (limits : Bounds) (bytes : List ℕ) : Type 0 where
  pub object : ℕ
  pub events : List Event
  pub results : Results limits bytes object events
  pub value : Data
  pub unfolds : Unfolds (contents events) object value
  pub shallow : depth value ≤ limits.depth
  pub many : limits.values < count value

-- what each error says about the bytes
abbrev pub IsNotExported : Bounds → List ℕ → ExportError → Type 0
IsNotExported limits bytes (Check r) =
    ((rest : List ℕ) × (pair : Option Asked)
    × Refused Unknown None (holding_all limits) (in_memory bytes) (in_memory rest) r.at r.reason
    pair)
    × (r.reason ≢ reason.OutOfMemory)
IsNotExported limits bytes (NotPlain at op) = FaultsAt limits bytes at (OtherOpcode op)
IsNotExported limits bytes (Key at) = FaultsAt limits bytes at OtherKey
IsNotExported limits bytes (Number at) = FaultsAt limits bytes at LargeNumber
IsNotExported limits bytes TooDeep = IsTooDeep limits bytes
IsNotExported limits bytes TooMany = HasTooMany limits bytes
IsNotExported limits bytes OutOfMemory = Unit {0}
