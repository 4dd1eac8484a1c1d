-- Plain data: its instructions, and the run of a plain pickle.
use Rattle.std.specs.Prelude.{ℕ, ◌+◌, Bool, true, false, cond, List, [], ◌∷◌, length, Option, Some}
use Rattle.std.specs.Prelude.{None, Result, Ok, Err}
use Rattle.pkops.specs.declared.Op.{Op}
use Rattle.pkops.specs.declared.Op.TheVariants as op
use Rattle.pkops.specs.Operands.{names_bool}
use Rattle.pkops.specs.Spelling.{Instruction, spelling}
use Rattle.pkmachine.specs.declared.effect.Class.TheVariants as class
use Rattle.pkmachine.specs.declared.effect.Wanted.TheVariants.{WantsDict}
use Rattle.pkmachine.specs.declared.effect.Gives.{Gives}
use Rattle.pkmachine.specs.declared.effect.Gives.TheVariants.{Makes, MakesIntOrBool, MayMake}
use Rattle.pkmachine.specs.declared.effect.Gives.TheVariants.{Leaves}
use Rattle.pkmachine.specs.Effects.{Effect, Operates, effect_of}
use Rattle.pkstack.specs.Shape.{Breach, Entry, Taken, operands}
use Rattle.pkmachine.specs.Runs.{ObjectClass, Text, Foreign, Object, State, Outcome, Go, Stepped}
use Rattle.pkmachine.specs.Runs.{WentOn, step, class_at}
use Rattle.pkmachine.specs.WholeRuns.{Ended, Reached, go_on}
use Rattle.pkjson.specs.Integers.{integer_named, fits_word}
use Rattle.pkjson.specs.Contents.{gives_of}

-- the opcodes of plain data
abbrev pub is_plain_data : Op → Bool
is_plain_data op.Proto = true
is_plain_data op.Frame = true
is_plain_data op.None = true
is_plain_data op.NewTrue = true
is_plain_data op.NewFalse = true
is_plain_data op.Int = true
is_plain_data op.Long = true
is_plain_data op.BinInt = true
is_plain_data op.BinInt1 = true
is_plain_data op.BinInt2 = true
is_plain_data op.Long1 = true
is_plain_data op.Long4 = true
is_plain_data op.Unicode = true
is_plain_data op.ShortBinUnicode = true
is_plain_data op.BinUnicode = true
is_plain_data op.BinUnicode8 = true
is_plain_data op.EmptyList = true
is_plain_data op.List = true
is_plain_data op.Append = true
is_plain_data op.Appends = true
is_plain_data op.EmptyTuple = true
is_plain_data op.Tuple = true
is_plain_data op.Tuple1 = true
is_plain_data op.Tuple2 = true
is_plain_data op.Tuple3 = true
is_plain_data op.EmptyDict = true
is_plain_data op.Dict = true
is_plain_data op.SetItem = true
is_plain_data op.SetItems = true
is_plain_data op.Mark = true
is_plain_data op.Pop = true
is_plain_data op.PopMark = true
is_plain_data op.Dup = true
is_plain_data op.Get = true
is_plain_data op.BinGet = true
is_plain_data op.LongBinGet = true
is_plain_data op.Put = true
is_plain_data op.BinPut = true
is_plain_data op.LongBinPut = true
is_plain_data op.Memoize = true
is_plain_data op.Stop = true
is_plain_data _ = false

-- why an instruction is not plain data: its opcode, a dict key that isn't text, or an integer that
-- doesn't fit 64 signed bits
pub data Fault : Type 0 where
  OtherOpcode : Op → Fault
  OtherKey : Fault
  LargeNumber : Fault

-- every other item, beginning with the first if the flag is true
abbrev pub every_other : {A : Type 0} → Bool → List A → List A
every_other first [] = []
every_other true (x ∷ xs) = x ∷ every_other false xs
every_other false (x ∷ xs) = every_other true xs

-- all items except the first
abbrev pub rest_of : {A : Type 0} → List A → List A
rest_of [] = []
rest_of (x ∷ xs) = xs

-- the keys among the operands of an opcode that sets some: DICT, SETITEM or SETITEMS
abbrev pub keys_set : Gives → List ℕ → List ℕ
keys_set (MayMake c) xs = every_other true xs
keys_set (Leaves WantsDict) xs = every_other true (rest_of xs)
keys_set gives xs = []

-- the operands, if they were found
abbrev pub taken : Result (Taken ℕ) Breach → List ℕ
taken (Ok t) = t.operands
taken (Err b) = []

-- the keys that an instruction with this effect sets in this stack
abbrev pub keys_by : Effect → List (Entry ℕ) → List ℕ
keys_by (Operates takes names gives) es = keys_set gives (taken (operands takes es))
keys_by e es = []

-- the class is a text
abbrev pub is_known_text : Option ObjectClass → Bool
is_known_text (Some (Text t)) = true
is_known_text c = false

-- all these objects are texts
abbrev pub are_texts : List Object → List ℕ → Bool
are_texts objects [] = true
are_texts objects (n ∷ ns) = cond (is_known_text (class_at objects n)) (are_texts objects ns) false

-- the integer that the instruction names, if it names one, fits 64 signed bits
abbrev pub number_fits : Gives → Instruction → Bool
number_fits (Makes class.Int) i = fits_word (integer_named i.arg)
number_fits MakesIntOrBool i = cond (names_bool i) true (fits_word (integer_named i.arg))
number_fits gives i = true

-- the fault of an instruction in this state
abbrev pub fault_of : Instruction → State → Option Fault
fault_of i s =
    cond (is_plain_data i.op)
    (cond (are_texts s.objects (keys_by (effect_of i.op) s.shape.entries))
    (cond (number_fits (gives_of (effect_of i.op)) i) None (Some LargeNumber))
    (Some OtherKey))
    (Some (OtherOpcode i.op))

-- the outcome without a raise
abbrev pub goes_on : Outcome
goes_on = Go 0 Foreign

-- the run whose outcomes are all `goes_on`
abbrev pub plain_run : List Instruction → State → Ended
plain_run [] s = Reached s
plain_run (i ∷ is) s = go_on (step i s goes_on) (plain_run is)

-- continues after a step that went on
abbrev pub fault_after : Stepped → (State → Option (ℕ × Fault)) → Option (ℕ × Fault)
fault_after (WentOn s) f = f s
fault_after st f = None

-- the fault of this instruction, otherwise the first one after it
abbrev pub fault_here : Option Fault → ℕ → Option (ℕ × Fault) → Option (ℕ × Fault)
fault_here (Some f) at later = Some (at, f)
fault_here None at later = later

-- the first fault of these instructions along the plain run, with the offset of its instruction;
-- `at` is the offset of the first instruction
abbrev pub first_fault : ℕ → List Instruction → State → Option (ℕ × Fault)
first_fault at [] s = None
first_fault at (i ∷ is) s =
    fault_here (fault_of i s) at
    (fault_after (step i s goes_on) (first_fault (at + length (spelling i)) is))
