-- What the machine does at an opcode.
use Rattle.std.specs.Prelude.{◌≡◌, ◌+◌, ◌/◌, ◌∷◌, ℕ, Bool, true, false, List, [], length, ⊤, min}
use Rattle.std.specs.Prelude.{Result, Ok, zero}
use Rattle.pkops.specs.Spelling.{Nothing, instruction}
use Rattle.pkops.specs.declared.Op.{Op}
use Rattle.pkops.specs.declared.Op.TheVariants as op
use Rattle.pkmachine.specs.declared.effect.Gives.TheVariants.{Leaves}
use Rattle.pkstack.specs.declared.Move.TheVariants.{PushesMark, Stores, StoresNext, Fetches}
use Rattle.pkstack.specs.declared.Move.TheVariants.{Pops, PopsMark, Duplicates, NoOp, Extends}
use Rattle.pkstack.specs.declared.Takes.{Takes}
use Rattle.pkstack.specs.declared.Takes.TheVariants.{Objects}
use Rattle.pkmachine.specs.Effects.{Effect, Operates, Moves, Stops, Raises, effect_of}
use Rattle.pkstack.specs.Shape.{Breach, Entry, Item, Taken, is_even, items, slice}
use Rattle.pkload.specs.Bill.{Bill, billed_by}
use Rattle.pkload.specs.Heft.{Heft, most_weight, weights_of}
use Rattle.pkload.specs.Memory.{held_memory, plain_memory, written_memory}
use Rattle.pkload.specs.Keys.{every_other}
use Rattle.pkload.specs.Tally.{with_keys}
use Rattle.pkload.specs.declared.action.Action.{Action}
use Rattle.pkload.specs.declared.action.Action.TheVariants as action
use Rattle.pkload.specs.declared.halt.Billing.{Billing}
use Rattle.pkload.specs.declared.halt.Billing.TheVariants.{Plain, Noted, Failed}
use Rattle.pkload.specs.declared.tally.Tally.{Tally}

-- the action of an operation on objects: without any it reads its argument, if anything
abbrev pub action_on : Bool → Takes → Action
action_on false (Objects zero) = action.Reads
action_on leaves takes = action.Operates

-- the action of an effect; a raise ends the run, whatever the machine does
abbrev pub action_in : Effect → Action
action_in (Operates takes names (Leaves wanted)) = action_on true takes
action_in (Operates takes names gives) = action_on false takes
action_in (Moves PushesMark) = action.Marks
action_in (Moves Fetches) = action.Fetches
action_in (Moves StoresNext) = action.StoresNext
action_in (Moves Stores) = action.Stores
action_in (Moves Pops) = action.Pops
action_in (Moves PopsMark) = action.PopsMark
action_in (Moves Duplicates) = action.Duplicates
action_in (Moves NoOp) = action.Passes
action_in (Moves Extends) = action.Extends
action_in Stops = action.Stops
action_in Raises = action.Stops

-- the action of an opcode. The most frequent have actions of their own: objects that weigh one,
-- have no argument and cost this much memory, texts, tuples, frozensets, and what fills lists,
-- dicts and sets
abbrev pub action_of : Op → Action
action_of op.None = action.Makes 16
action_of op.NewTrue = action.Makes 16
action_of op.NewFalse = action.Makes 16
action_of op.BinInt1 = action.Makes 16
action_of op.BinInt = action.Makes 48
action_of op.BinInt2 = action.Makes 48
action_of op.BinFloat = action.Makes 48
action_of op.EmptyList = action.Makes 96
action_of op.EmptyDict = action.Makes 96
action_of op.EmptySet = action.Makes 256
action_of op.EmptyTuple = action.MakesTuple
action_of op.ShortBinUnicode = action.Texts
action_of op.BinUnicode = action.Texts
action_of op.BinUnicode8 = action.Texts
action_of op.Tuple1 = action.TiesOne
action_of op.Tuple2 = action.TiesTwo
action_of op.Tuple3 = action.TiesThree
action_of op.Append = action.Appends
action_of op.Appends = action.AppendsSlice
action_of op.AddItems = action.AddsSlice
action_of op.Tuple = action.TiesSlice
action_of op.FrozenSet = action.FreezesSlice
action_of op.Build = action.Builds
action_of op.SetItem = action.Sets
action_of op.SetItems = action.SetsSlice
action_of o = action_in (effect_of o)

-- the bill after a new object is pushed
abbrev pub pushed : Heft → ℕ → Bill → Bill
pushed heft more bill = record bill {
  shape = record bill.shape { entries = Item heft ∷ bill.shape.entries };
  memory = bill.memory + more;
}

-- an object that weighs one
abbrev pub light : Heft
light = record { weight = 1; depth = 0; salted = false; imported = false }

-- a text of so many bytes, bytes, or a string of Python 2
abbrev pub string_heft : ℕ → Heft
string_heft size = record {
  weight = min most_weight (1 + size / 64);
  depth = 0;
  salted = true;
  imported = false;
}

-- the memory that an instruction takes which makes an object of these bytes
abbrev pub reading_memory : Op → List ℕ → ℕ
reading_memory o bytes =
    16 + (plain_memory o (length bytes) + (held_memory o 0 + written_memory o bytes))

-- the bill after an instruction of which the opcode says all: it reads no bytes, and no number
abbrev pub op_billed : Op → Bill → Result Bill Breach
op_billed o bill = billed_by (effect_of o) (instruction o Nothing) bill

-- no key was counted, and the pickle hasn't ended since
pub record IsQuiet (old new : Bill) : Type 0 where
  pub tally : new.tally ≡ old.tally
  pub ended : new.ended ≡ old.ended

-- this holds if the instruction is billed
abbrev pub IfBilled : Billing → Type 0 → Type 0
IfBilled Plain p = p
IfBilled Noted p = p
IfBilled Failed p = ⊤

-- so many objects were found on top, and an object that costs this was put in their place
pub record AreReplaced (count : ℕ) (entries new : List (Entry Heft)) (heft : Heft) : Type 0 where
  pub hefts : List Heft
  pub below : List (Entry Heft)
  pub is : items count entries [] ≡ Ok (record { operands = hefts; below = below })
  pub new_is : new ≡ Item heft ∷ below

-- so many objects were found on top, and an object that costs this was put in their place
pub record IsAnswered (found : Result (Taken Heft) Breach) (heft : Heft) (more : ℕ)
    (old new : Bill) : Type 0 where
  pub hefts : List Heft
  pub below : List (Entry Heft)
  pub is : found ≡ Ok (record { operands = hefts; below = below })
  pub new_is : new ≡ pushed heft more (record old {
    shape = record old.shape { entries = below };
  })

-- the slice was found, with these entries below it and so many objects in it
pub record HasSlice (entries below : List (Entry Heft)) (count : ℕ) : Type 0 where
  pub hefts : List Heft
  pub is : slice entries [] ≡ Ok (record { operands = hefts; below = below })
  pub count_is : length hefts ≡ count

-- the slice was found, with so many objects in it, and an object that costs this was put in its
-- place
pub record HasReplaced (entries new : List (Entry Heft)) (heft : Heft) (count : ℕ) : Type 0 where
  pub below : List (Entry Heft)
  pub found : HasSlice entries below count
  pub new_is : new ≡ Item heft ∷ below

-- the slice was found, with these entries below it and so many keys and values in it, and the keys
-- were counted
pub record HasPairs (entries below : List (Entry Heft)) (tally counted : Tally) (count : ℕ)
    : Type 0 where
  pub found : HasSlice entries below count
  pub even : is_even found.hefts ≡ true
  pub counted_is : counted ≡ with_keys tally (every_other found.hefts)

-- likewise, and an object that costs this was put in their place
pub record ArePairsReplaced (entries new : List (Entry Heft)) (tally counted : Tally) (heft : Heft)
    (count : ℕ) : Type 0 where
  pub below : List (Entry Heft)
  pub pairs : HasPairs entries below tally counted count
  pub new_is : new ≡ Item heft ∷ below

-- the slice was found, with these entries below it and so many objects in it, and all were counted
-- as keys
pub record HasKeys (entries below : List (Entry Heft)) (tally counted : Tally) (count : ℕ)
    : Type 0 where
  pub found : HasSlice entries below count
  pub counted_is : counted ≡ with_keys tally found.hefts
  pub work_is : counted.work ≡ tally.work + weights_of found.hefts

-- a frozenset of items that together weigh this much
abbrev pub frozen_heft : ℕ → Heft
frozen_heft held = record {
  weight = min most_weight (1 + held);
  depth = 0;
  salted = false;
  imported = false;
}

-- the slice was found, with so many objects in it, all were counted as keys, and a frozenset of
-- them was put in its place
pub record AreFrozen (entries new : List (Entry Heft)) (tally counted : Tally) (count : ℕ) : Type 0
  where
    pub below : List (Entry Heft)
    pub keys : HasKeys entries below tally counted count
    pub new_is : new ≡ Item (frozen_heft (weights_of keys.found.hefts)) ∷ below
