-- Worked pickles, computed by the definitions.
use Rattle.std.proofs.Common.{◌≡◌, ℕ, List, [], ◌∷◌, Option, Some, None, refl}
use Rattle.std.specs.Prelude.{true, negsuc}
use Rattle.serde_json.specs.Data.{Data, unsigned, negative, null, boolean, number, array, object}
use Rattle.serde_json.specs.Data.{no_items, item, no_members, member}
use Rattle.pkops.specs.declared.Op.{Op}
use Rattle.pkops.specs.declared.Op.TheVariants as op
use Rattle.pkops.specs.Spelling.{Instruction, instruction, Nothing, Number, Counted, Line}
use Rattle.pkmachine.specs.Runs.{Event, Stopped, start}
use Rattle.pkmachine.specs.WholeRuns.{Ended, EndedBy}
use Rattle.pkjson.specs.Contents.{contents}
use Rattle.pkjson.specs.Plain.{OtherKey, LargeNumber, OtherOpcode, plain_run, first_fault}
use Rattle.pkjson.specs.Unfolds.{Unfolds}
use Rattle.pkjson.specs.Private.Weighs.{IsDeeper}
use Rattle.pkjson.proofs.Parts.Weights.{self_deeper}

abbrev events_of : Ended → List Event
events_of (EndedBy (Stopped x s)) = s.events
events_of e = []

abbrev result_of : Ended → Option ℕ
result_of (EndedBy (Stopped x s)) = Some x
result_of e = None

-- no instruction has a fault, and the run ends with an object that unfolds to the value
abbrev Exports : List Instruction → ℕ → Data → Type 0
Exports p x v = (first_fault 0 p start ≡ None) × (result_of (plain_run p start) ≡ Some x)
    × Unfolds (contents (events_of (plain_run p start))) x v

abbrev bare : Op → Instruction
bare o = instruction o Nothing

abbrev named : List ℕ → Instruction
named t = instruction op.ShortBinUnicode (Counted t)

abbrev small : ℕ → Instruction
small n = instruction op.BinInt1 (Number 1 n)

abbrev stored : ℕ → Instruction
stored n = instruction op.BinGet (Number 1 n)

-- a dict of one pair
one_pair : Exports
    (bare op.EmptyDict ∷ named (97 ∷ []) ∷ small 1 ∷ bare op.SetItem ∷ bare op.Stop ∷ []) 0
    (object (member (97 ∷ []) (number (unsigned 1)) no_members))
one_pair = (refl, refl, (_, refl, (refl, refl, tt)))

-- the last value of a key stands
last_value : Exports
    (bare op.EmptyDict ∷ named (97 ∷ []) ∷ small 1 ∷ bare op.SetItem ∷ named (97 ∷ []) ∷ small 2
    ∷ bare op.SetItem ∷ bare op.Stop ∷ []) 0
    (object (member (97 ∷ []) (number (unsigned 2)) no_members))
last_value = (refl, refl, (_, refl, (refl, refl, tt)))

-- members stand in the byte order of their keys
in_order : Exports
    (bare op.EmptyDict ∷ named (98 ∷ []) ∷ bare op.None ∷ bare op.SetItem ∷ named (97 ∷ [])
    ∷ bare op.NewTrue ∷ bare op.SetItem ∷ bare op.Stop ∷ []) 0
    (object (member (97 ∷ []) (boolean true) (member (98 ∷ []) null no_members)))
in_order = (refl, refl, (_, refl, (refl, refl, (refl, refl, tt))))

-- a list that is filled after it was stored and put elsewhere
filled_later : Exports
    (bare op.EmptyList ∷ bare op.EmptyList ∷ bare op.Memoize ∷ bare op.Append ∷ stored 0
    ∷ bare op.None ∷ bare op.Append ∷ bare op.Pop ∷ bare op.Stop ∷ []) 0
    (array (item (array (item null no_items)) no_items))
filled_later = (refl, refl, (_, refl, ((_, refl, (refl, tt)), tt)))

-- what INT says by 01, and LONG1 by no bytes and by its least eight
truth : Exports (instruction op.Int (Line (48 ∷ 49 ∷ [])) ∷ bare op.Stop ∷ []) 0 (boolean true)
truth = (refl, refl, refl)

no_bytes : Exports (instruction op.Long1 (Counted []) ∷ bare op.Stop ∷ []) 0 (number (unsigned 0))
no_bytes = (refl, refl, refl)

least : Exports
    (instruction op.Long1 (Counted (0 ∷ 0 ∷ 0 ∷ 0 ∷ 0 ∷ 0 ∷ 0 ∷ 128 ∷ [])) ∷ bare op.Stop ∷ []) 0
    (number (negative (negsuc 9223372036854775807)))
least = (refl, refl, refl)

-- the first instruction that is no part of plain data
too_large : first_fault 0
    (instruction op.Long1 (Counted (0 ∷ 0 ∷ 0 ∷ 0 ∷ 0 ∷ 0 ∷ 0 ∷ 128 ∷ 0 ∷ [])) ∷ bare op.Stop ∷ [])
    start ≡ Some (0, LargeNumber)
too_large = refl

number_for_key : first_fault 0
    (bare op.EmptyDict ∷ small 1 ∷ bare op.None ∷ bare op.SetItem ∷ bare op.Stop ∷ []) start
    ≡ Some (4, OtherKey)
number_for_key = refl

dropped_bytes : first_fault 0
    (instruction op.ShortBinBytes (Counted (0 ∷ [])) ∷ bare op.Pop ∷ bare op.None ∷ bare op.Stop
    ∷ []) start ≡ Some (0, OtherOpcode op.ShortBinBytes)
dropped_bytes = refl

-- a list that holds itself
abbrev cyclic : List Instruction
cyclic = bare op.EmptyList ∷ instruction op.BinPut (Number 1 0) ∷ stored 0 ∷ bare op.Append
    ∷ bare op.Stop ∷ []

holds_itself : (result_of (plain_run cyclic start) ≡ Some 0)
    × ((levels : ℕ) → IsDeeper (contents (events_of (plain_run cyclic start))) levels 0)
holds_itself = (refl, λ n. self_deeper _ 0 n refl)
