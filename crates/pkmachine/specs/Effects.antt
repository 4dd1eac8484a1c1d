-- What each opcode does to the stack and the memo: one row for each opcode. The rows follow the
-- stack notes of CPython's `pickletools`, PEP 307 (protocol 2), PEP 3154 (protocol 4) and PEP 574
-- (protocol 5). What BUILD, OBJ and READONLY_BUFFER leave on the stack is this project's reading of
-- them.
use Rattle.std.specs.Prelude.{ℕ, Bool, true, false, if◌then◌else◌, List, [], unwrap_or}
use Rattle.std.specs.List.{list_all}
use Rattle.std.specs.Char.{is_ascii}
use Rattle.pkops.specs.OldBytes.{old_bytes}
use Rattle.pkops.specs.Operands.{memo_number}
use Rattle.pkops.specs.Spelling.{Instruction}
use Rattle.pkops.specs.declared.Op.{Op}
use Rattle.pkops.specs.declared.Op.TheVariants as op
use Rattle.pkmachine.specs.declared.effect.Class.{Class}
use Rattle.pkmachine.specs.declared.effect.Class.TheVariants as class
pub use Rattle.pkstack.specs.declared.SliceRule.TheVariants.{AnySlice, EvenSlice, FullSlice}
pub use Rattle.pkstack.specs.declared.Takes.{Takes}
pub use Rattle.pkstack.specs.declared.Takes.TheVariants.{Objects, Slice, SliceAndReceiver}
pub use Rattle.pkmachine.specs.declared.effect.Names.{Names}
pub use Rattle.pkmachine.specs.declared.effect.Names.TheVariants.{NoName, OfArgument, OfOperands}
pub use Rattle.pkmachine.specs.declared.effect.Wanted.{Wanted}
pub use Rattle.pkmachine.specs.declared.effect.Wanted.TheVariants.{WantsAny, WantsList, WantsDict}
pub use Rattle.pkmachine.specs.declared.effect.Wanted.TheVariants.{WantsSet}
pub use Rattle.pkmachine.specs.declared.effect.Gives.TheVariants.{Makes, MakesIntOrBool, MakesText}
pub use Rattle.pkmachine.specs.declared.effect.Gives.TheVariants.{MayMake, Answers, Leaves}
pub use Rattle.pkmachine.specs.declared.old_strings.OldStrings.{OldStrings}
pub use Rattle.pkmachine.specs.declared.old_strings.OldStrings.TheVariants.{Unknown, Ascii, Bytes}
pub use Rattle.pkmachine.specs.declared.effect.Gives.{Gives}
use Rattle.pkstack.specs.declared.Move.{Move}
use Rattle.pkstack.specs.declared.Move.TheVariants.{PushesMark, Pops, PopsMark, Duplicates, Stores}
use Rattle.pkstack.specs.declared.Move.TheVariants.{StoresNext, Fetches, NoOp, Extends}
use Rattle.pkstack.specs.Shape.{number_moved}

-- what an instruction does: an operation takes objects, may name a pair to import, and leaves an
-- object; a move looks at no object; STOP takes the result; a raise ends the run
pub data Effect : Type 0 where
  Operates : Takes → Names → Gives → Effect
  Moves : Move → Effect
  Stops : Effect
  Raises : Effect

-- takes nothing and pushes a new object of this class
abbrev pub pushes : Class → Effect
pushes c = Operates (Objects 0) NoName (Makes c)

-- takes operands and pushes a new object of this class
abbrev pub makes : Takes → Class → Effect
makes takes c = Operates takes NoName (Makes c)

-- like `makes`, but it may raise, because keys and set items must be hashable
abbrev pub may_make : Takes → Class → Effect
may_make takes c = Operates takes NoName (MayMake c)

-- takes operands and pushes whatever the operation answers, or raises
abbrev pub answers : Takes → Effect
answers takes = Operates takes NoName Answers

-- takes operands, imports a pair, and pushes whatever the name refers to, or raises
abbrev pub imports : Takes → Names → Effect
imports takes names = Operates takes names Answers

-- takes operands and leaves the first of them, the receiver, with the others added, or raises
abbrev pub fills : Takes → Wanted → Effect
fills takes wanted = Operates takes NoName (Leaves wanted)

abbrev pub effect_of : Op → Effect
-- numbers (LONG1 and LONG4: PEP 307, Pickling Python longs)
effect_of op.Int = Operates (Objects 0) NoName MakesIntOrBool
effect_of op.BinInt = pushes class.Int
effect_of op.BinInt1 = pushes class.Int
effect_of op.BinInt2 = pushes class.Int
effect_of op.Long = pushes class.Int
effect_of op.Long1 = pushes class.Int
effect_of op.Long4 = pushes class.Int
effect_of op.Float = pushes class.Float
effect_of op.BinFloat = pushes class.Float
-- strings of Python 2, if their decoding isn't set
effect_of op.String = answers (Objects 0)
effect_of op.BinString = answers (Objects 0)
effect_of op.ShortBinString = answers (Objects 0)
-- bytes, bytearrays and buffers (BYTEARRAY8 and the buffers: PEP 574, Protocol changes)
effect_of op.BinBytes = pushes class.Bytes
effect_of op.ShortBinBytes = pushes class.Bytes
effect_of op.BinBytes8 = pushes class.Bytes
effect_of op.ByteArray8 = pushes class.ByteArray
effect_of op.NextBuffer = answers (Objects 0)
effect_of op.ReadonlyBuffer = answers (Objects 1)
-- None, True and False (NEWTRUE and NEWFALSE: PEP 307, Pickling bools)
effect_of op.None = pushes class.None
effect_of op.NewTrue = pushes class.Bool
effect_of op.NewFalse = pushes class.Bool
-- text
effect_of op.Unicode = Operates (Objects 0) NoName MakesText
effect_of op.ShortBinUnicode = Operates (Objects 0) NoName MakesText
effect_of op.BinUnicode = Operates (Objects 0) NoName MakesText
effect_of op.BinUnicode8 = Operates (Objects 0) NoName MakesText
-- lists
effect_of op.EmptyList = pushes class.List
effect_of op.Append = fills (Objects 2) WantsList
effect_of op.Appends = fills (SliceAndReceiver AnySlice) WantsList
effect_of op.List = makes (Slice AnySlice) class.List
-- tuples (TUPLE1 to TUPLE3: PEP 307, Pickling small tuples)
effect_of op.EmptyTuple = pushes class.Tuple
effect_of op.Tuple = makes (Slice AnySlice) class.Tuple
effect_of op.Tuple1 = makes (Objects 1) class.Tuple
effect_of op.Tuple2 = makes (Objects 2) class.Tuple
effect_of op.Tuple3 = makes (Objects 3) class.Tuple
-- dicts
effect_of op.EmptyDict = pushes class.Dict
effect_of op.Dict = may_make (Slice EvenSlice) class.Dict
effect_of op.SetItem = fills (Objects 3) WantsDict
effect_of op.SetItems = fills (SliceAndReceiver EvenSlice) WantsDict
-- sets (PEP 3154, Native opcodes for sets and frozensets)
effect_of op.EmptySet = pushes class.Set
effect_of op.AddItems = fills (SliceAndReceiver AnySlice) WantsSet
effect_of op.FrozenSet = may_make (Slice AnySlice) class.FrozenSet
-- the stack only
effect_of op.Pop = Moves Pops
effect_of op.Dup = Moves Duplicates
effect_of op.Mark = Moves PushesMark
effect_of op.PopMark = Moves PopsMark
-- the memo (MEMOIZE: PEP 3154, Smaller memoization)
effect_of op.Get = Moves Fetches
effect_of op.BinGet = Moves Fetches
effect_of op.LongBinGet = Moves Fetches
effect_of op.Put = Moves Stores
effect_of op.BinPut = Moves Stores
effect_of op.LongBinPut = Moves Stores
effect_of op.Memoize = Moves StoresNext
-- names of classes and functions (EXT1, EXT2 and EXT4: PEP 307, The extension registry;
-- STACK_GLOBAL: PEP 3154, Serializing more "lookupable" objects)
effect_of op.Ext1 = Moves Extends
effect_of op.Ext2 = Moves Extends
effect_of op.Ext4 = Moves Extends
effect_of op.Global = imports (Objects 0) OfArgument
effect_of op.StackGlobal = imports (Objects 2) OfOperands
-- building objects: calls, instances and persistent ids (NEWOBJ: PEP 307; NEWOBJ_EX: PEP 3154,
-- Calling __new__ with keyword arguments)
effect_of op.Reduce = answers (Objects 2)
effect_of op.Build = fills (Objects 2) WantsAny
effect_of op.Inst = imports (Slice AnySlice) OfArgument
effect_of op.Obj = answers (Slice FullSlice)
effect_of op.NewObj = answers (Objects 2)
effect_of op.NewObjEx = answers (Objects 3)
effect_of op.PersId = answers (Objects 0)
effect_of op.BinPersid = answers (Objects 1)
-- the pickle itself (PROTO: PEP 307, Protocol identification; FRAME: PEP 3154, Framing)
effect_of op.Proto = Moves NoOp
effect_of op.Frame = Moves NoOp
effect_of op.Stop = Stops

-- whether the opcode pushes a Python 2 string
abbrev pub is_old_string : Op → Bool
is_old_string op.String = true
is_old_string op.BinString = true
is_old_string op.ShortBinString = true
is_old_string _ = false

-- a Python 2 string with these bytes, decoded as ASCII: a text with these characters, or a raise
abbrev pub ascii_string : List ℕ → Effect
ascii_string bytes =
    if list_all is_ascii bytes then Operates (Objects 0) NoName MakesText else Raises

-- what an instruction does, given the decoding of old strings
abbrev pub effect_as : OldStrings → Instruction → Effect
effect_as Unknown i = effect_of i.op
effect_as Ascii i =
    if is_old_string i.op then ascii_string (unwrap_or (old_bytes i) []) else effect_of i.op
effect_as Bytes i = if is_old_string i.op then pushes class.Bytes else effect_of i.op

-- the number under which PUT, BINPUT and LONG_BINPUT store, otherwise 0
abbrev pub number_stored : Effect → Instruction → ℕ
number_stored (Moves move) instruction = number_moved move (memo_number instruction)
number_stored _ instruction = 0
