-- The effect of a plain instruction on the objects.
use Rattle.std.specs.Prelude.{◌≡◌, ℕ, suc, Bool, true, cond, List, [], ◌∷◌, ◌++◌, length, Option}
use Rattle.std.specs.Prelude.{Some, None, Result, Ok, Err}
use Rattle.serde_json.specs.Data.{string, null, boolean, number}
use Rattle.serde_json.specs.Find.{of_integer}
use Rattle.pkops.specs.Spelling.{Instruction}
use Rattle.pkops.specs.Operands.{names_bool, memo_number}
use Rattle.pkmachine.specs.declared.effect.Class.TheVariants as class
use Rattle.pkmachine.specs.Effects.{Effect}
use Rattle.pkmachine.specs.Effects as effect
use Rattle.pkmachine.specs.declared.effect.Gives.{Gives}
use Rattle.pkmachine.specs.declared.effect.Gives.TheVariants as gives
use Rattle.pkmachine.specs.declared.effect.Names.TheVariants.{NoName}
use Rattle.pkstack.specs.declared.Takes.{Takes as TakesOf}
use Rattle.pkstack.specs.declared.Takes.TheVariants as takes
use Rattle.pkmachine.specs.declared.effect.Wanted.TheVariants.{WantsList, WantsDict}
use Rattle.pkstack.specs.Shape.{Breach, Entry, Item, Taken, and_then, items, slice, front, moved}
use Rattle.pkjson.specs.declared.action.Action.{Action}
use Rattle.pkjson.specs.declared.action.Action.TheVariants.{Makes, Fills, Moves, Stops}
use Rattle.pkjson.specs.declared.action.Filled.{Filled}
use Rattle.pkjson.specs.declared.action.Filled.TheVariants as filled
use Rattle.pkjson.specs.declared.action.Made.{Made}
use Rattle.pkjson.specs.declared.action.Made.TheVariants as made
use Rattle.pkjson.specs.declared.action.Takes.{Takes}
use Rattle.pkjson.specs.declared.action.Takes.TheVariants.{Objects, Slice}
use Rattle.pkjson.specs.Integers.{integer_named, fits_word}
use Rattle.pkjson.specs.Contents.{Kind, OfItems, OfPairs, OfValue, int_value, text_named}
use Rattle.pkjson.specs.Plain.{Fault, OtherKey, LargeNumber, every_other, taken}
use Rattle.pkjson.specs.Private.Arena.{Arena, kept_by, received, are_text_kinds}

-- the operands, without the rule for a slice
abbrev pub picked : Takes → List (Entry ℕ) → Result (Taken ℕ) Breach
picked (Objects k) es = items k es []
picked Slice es = slice es []

-- the operands and the object below them
abbrev pub found_above : Takes → List (Entry ℕ) → Result (Taken ℕ) Breach
found_above t es = and_then (picked t es) (λ t. items 1 t.below t.operands)

-- the operands are replaced by a new object
abbrev pub made_of : Kind → Taken ℕ → Arena → Arena
made_of kind t a = record {
  shape = record { entries = Item (length a.kept) ∷ t.below; memo = a.shape.memo };
  kept = a.kept ++ record { kind = kind; given = kept_by kind t.operands } ∷ [];
}

-- the first operand stays and receives the others
abbrev pub filled_of : Taken ℕ → Arena → Arena
filled_of t a = record {
  shape = record { entries = front t.operands ++ t.below; memo = a.shape.memo };
  kept = received t.operands a.kept;
}

-- the kind of the object that is made
abbrev pub kind_made : Made → Instruction → Kind
kind_made made.Items i = OfItems
kind_made made.NoPairs i = OfPairs
kind_made made.Pairs i = OfPairs
kind_made made.Null i = OfValue null
kind_made (made.Truth b) i = OfValue (boolean b)
kind_made made.Text i = OfValue (string (text_named i))
kind_made made.IntOrTruth i = OfValue (int_value i)
kind_made made.Int i = OfValue (number (of_integer (integer_named i.arg)))

-- the effect of a plain instruction
abbrev pub acted : Action → Instruction → Arena → Result Arena Breach
acted (Makes t m) i a = and_then (picked t a.shape.entries) (λ u. Ok (made_of (kind_made m i) u a))
acted (Fills t f) i a = and_then (found_above t a.shape.entries) (λ u. Ok (filled_of u a))
acted (Moves m) i a =
    and_then (moved m (memo_number i) a.shape) (λ h. Ok (record { shape = h; kept = a.kept }))
acted Stops i a = Ok a

-- the keys that the action sets
abbrev pub keys_acted : Action → List (Entry ℕ) → List ℕ
keys_acted (Makes t made.Pairs) es = every_other true (taken (picked t es))
keys_acted (Fills t filled.Pairs) es = every_other true (taken (picked t es))
keys_acted a es = []

-- if an integer is made, it fits 64 signed bits
abbrev pub number_made : Made → Instruction → Bool
number_made made.Int i = fits_word (integer_named i.arg)
number_made made.IntOrTruth i = cond (names_bool i) true (fits_word (integer_named i.arg))
number_made m i = true

-- if the action makes an integer, it fits 64 signed bits
abbrev pub number_acted : Action → Instruction → Bool
number_acted (Makes t m) i = number_made m i
number_acted a i = true

-- why the instruction is not plain data, or None if it is
abbrev pub fault_acted : Action → Instruction → Arena → Option Fault
fault_acted action i a =
    cond (are_text_kinds a.kept (keys_acted action a.shape.entries))
    (cond (number_acted action i) None (Some LargeNumber))
    (Some OtherKey)

-- both take the same operands
abbrev pub TakesSame : Takes → TakesOf → Type 0
TakesSame (Objects k) (takes.Objects n) = n ≡ k
TakesSame Slice (takes.Slice rule) = Unit {0}
TakesSame t u = ⊥

-- the machine takes these operands and the receiver below them
abbrev pub TakesAbove : Takes → TakesOf → Type 0
TakesAbove (Objects k) (takes.Objects n) = n ≡ suc k
TakesAbove Slice (takes.SliceAndReceiver rule) = Unit {0}
TakesAbove t u = ⊥

-- both make the same kind
abbrev pub MakesSame : Made → Gives → Type 0
MakesSame made.Items (gives.Makes class.List) = Unit {0}
MakesSame made.Items (gives.Makes class.Tuple) = Unit {0}
MakesSame made.NoPairs (gives.Makes class.Dict) = Unit {0}
MakesSame made.Pairs (gives.MayMake class.Dict) = Unit {0}
MakesSame made.Null (gives.Makes class.None) = Unit {0}
MakesSame (made.Truth b) (gives.Makes class.Bool) = Unit {0}
MakesSame made.Text gives.MakesText = Unit {0}
MakesSame made.IntOrTruth gives.MakesIntOrBool = Unit {0}
MakesSame made.Int (gives.Makes class.Int) = Unit {0}
MakesSame m g = ⊥

-- both fill the same kind
abbrev pub FillsSame : Filled → Gives → Type 0
FillsSame filled.Items (gives.Leaves WantsList) = Unit {0}
FillsSame filled.Pairs (gives.Leaves WantsDict) = Unit {0}
FillsSame f g = ⊥

-- the action does what the machine does
abbrev pub ActsAs : Action → Effect → Type 0
ActsAs (Makes t m) (effect.Operates u NoName g) = TakesSame t u × MakesSame m g
ActsAs (Fills t f) (effect.Operates u NoName g) = TakesAbove t u × FillsSame f g
ActsAs (Moves m) (effect.Moves p) = m ≡ p
ActsAs Stops effect.Stops = Unit {0}
ActsAs a e = ⊥

-- the object that the action makes, if any, has this kind
abbrev pub KindsAgree : Action → Instruction → Kind → Type 0
KindsAgree (Makes t m) i kind = kind ≡ kind_made m i
KindsAgree a i kind = Unit {0}

-- the operation is missing something
abbrev pub IsLacking : {A : Type 0} → Result A Breach → Type 0
IsLacking x = (b : Breach) × (x ≡ Err b)
