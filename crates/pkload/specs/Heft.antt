-- What an object costs as a key of a dict or an item of a set. Tuples, frozensets, texts, bytes and
-- ints never change, so this is known when they are made. What a call answers may hold its
-- operands, as a named tuple does, so it costs what a tuple of them would.
use Rattle.std.specs.Prelude.{ℕ, ◌+◌, ◌/◌, min, max, Bool, true, false, if◌then◌else◌, List, []}
use Rattle.std.specs.Prelude.{◌∷◌, length}
use Rattle.pkops.specs.declared.Op.{Op}
use Rattle.pkops.specs.declared.Op.TheVariants as op
use Rattle.pkops.specs.Spelling.{Argument, Line, Counted, Instruction}

-- the cost of an object as a key
pub record Heft : Type 0 where
  -- what a hash or a comparison may look at, in units of some bytes or one object
  pub weight : ℕ
  -- levels of tuples, each of which a hash descends by a call of its own
  pub depth : ℕ
  -- its hash is salted, or it isn't known what hashes it: a text, bytes, or an answer
  pub salted : Bool
  -- an import answered it
  pub imported : Bool

-- weights and depths are counted up to these numbers, and greater ones count as these
abbrev pub most_weight : ℕ
most_weight = 1_048_575

abbrev pub most_depth : ℕ
most_depth = 1_023

-- opcodes that make a tuple
abbrev pub makes_tuple : Op → Bool
makes_tuple op.EmptyTuple = true
makes_tuple op.Tuple = true
makes_tuple op.Tuple1 = true
makes_tuple op.Tuple2 = true
makes_tuple op.Tuple3 = true
makes_tuple _ = false

-- opcodes that make an int from a line or payload of any length
abbrev pub makes_long : Op → Bool
makes_long op.Int = true
makes_long op.Long = true
makes_long op.Long1 = true
makes_long op.Long4 = true
makes_long _ = false

-- opcodes that make a text, bytes, or a string of Python 2, which is one of them
abbrev pub makes_string : Op → Bool
makes_string op.String = true
makes_string op.BinString = true
makes_string op.ShortBinString = true
makes_string op.Unicode = true
makes_string op.ShortBinUnicode = true
makes_string op.BinUnicode = true
makes_string op.BinUnicode8 = true
makes_string op.BinBytes = true
makes_string op.ShortBinBytes = true
makes_string op.BinBytes8 = true
makes_string _ = false

-- opcodes that answer what a name refers to
abbrev pub imports_object : Op → Bool
imports_object op.Global = true
imports_object op.StackGlobal = true
imports_object _ = false

-- opcodes that answer something about their operands: a call's result, the object of a persistent
-- id, or a buffer that can't be written
abbrev pub answers_operands : Op → Bool
answers_operands op.Reduce = true
answers_operands op.Inst = true
answers_operands op.Obj = true
answers_operands op.NewObj = true
answers_operands op.NewObjEx = true
answers_operands op.BinPersid = true
answers_operands op.ReadonlyBuffer = true
answers_operands _ = false

-- opcodes that answer something else than a name: what was said, the object of a persistent id in a
-- line, or a buffer
abbrev pub answers_other : Op → Bool
answers_other op.PersId = true
answers_other op.NextBuffer = true
answers_other o = answers_operands o

-- the opcode's object has a salted hash, or it isn't known what hashes it
abbrev pub makes_salted : Op → Bool
makes_salted o =
    if makes_string o then true else (if imports_object o then true else answers_other o)

-- the number of bytes in an argument's line or payload
abbrev pub argument_size : Argument → ℕ
argument_size (Line line) = length line
argument_size (Counted payload) = length payload
argument_size _ = 0

-- the weight of a line or payload of this many bytes: one for each 8 bytes of an int, and for each
-- 64 bytes of a text or bytes
abbrev pub payload_weight : Op → ℕ → ℕ
payload_weight o size =
    if makes_long o then size / 8 else (if makes_string o then size / 64 else 0)

-- the weights of all these together
abbrev pub weights_of : List Heft → ℕ
weights_of [] = 0
weights_of (heft ∷ hefts) = heft.weight + weights_of hefts

-- the depth of the deepest
abbrev pub deepest_of : List Heft → ℕ
deepest_of [] = 0
deepest_of (heft ∷ hefts) = max heft.depth (deepest_of hefts)

-- the hash of the opcode's object may ask each of its operands for its own: that of a tuple does
abbrev pub asks_operands : Op → Bool
asks_operands o = if makes_tuple o then true else answers_operands o

-- the opcode's object may hold its operands for as long as it lives, and its hash look at them
abbrev pub holds_operands : Op → Bool
holds_operands op.FrozenSet = true
holds_operands o = asks_operands o

-- what the object of an opcode costs, given the size of its argument and its operands. A tuple is
-- one level deeper than its items, and so is an answer. A frozenset weighs what its items do, but
-- isn't deep: it keeps their hashes. A list or dict is compared by identity, so it weighs one
abbrev pub heft_made : Op → ℕ → List Heft → Heft
heft_made o size operands = record {
  weight = min most_weight (1 + (payload_weight o size
      + (if holds_operands o then weights_of operands else 0)));
  depth = if asks_operands o then min most_depth (1 + deepest_of operands) else 0;
  salted = makes_salted o;
  imported = imports_object o;
}

-- what the object of an instruction costs
abbrev pub heft_of : Instruction → List Heft → Heft
heft_of i operands = heft_made i.op (argument_size i.arg) operands
