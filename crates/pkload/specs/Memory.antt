-- How many bytes of memory loading takes, by a table of what CPython allocates: some for each
-- instruction, and more for the object that it makes or fills. What calls allocate isn't known.
use Rattle.std.specs.Prelude.{ℕ, ◌+◌, ◌-◌, ◌*◌, ◌/◌, ltb, Bool, not, ◌||◌}
use Rattle.std.specs.Prelude.{if◌then◌else◌, List, [], length}
use Rattle.std.specs.List.{filter, list_all}
use Rattle.std.specs.Char.{is_ascii}
use Rattle.pkops.specs.Escapes.{is_plain_ascii}
use Rattle.pkops.specs.Spelling.{Argument, Line, Counted, Instruction}
use Rattle.pkops.specs.declared.Op.{Op}
use Rattle.pkops.specs.declared.Op.TheVariants as op
use Rattle.pkstack.specs.declared.Move.{Move}
use Rattle.pkstack.specs.declared.Move.TheVariants.{PushesMark, Stores, StoresNext}
use Rattle.pkload.specs.Heft.{argument_size}

-- the byte is the first of a character in UTF-8
abbrev pub begins_character : ℕ → Bool
begins_character byte = ltb byte 128 || not (ltb byte 192)

-- bytes for each character of a text in UTF-8: as many as the widest needs
abbrev pub character_width : List ℕ → ℕ
character_width bytes =
    if list_all (λ byte. ltb byte 196) bytes
    then 1
    else (if list_all (λ byte. ltb byte 240) bytes then 2 else 4)

-- a text in UTF-8
abbrev pub text_memory : List ℕ → ℕ
text_memory bytes =
    if list_all is_ascii bytes
    then 64 + length bytes
    else 88 + character_width bytes * length (filter begins_character bytes)

-- the text of a line of UNICODE, at most: each byte may give a character of four bytes, unless the
-- line is plain
abbrev pub line_memory : List ℕ → ℕ
line_memory bytes =
    if list_all is_plain_ascii bytes then 64 + length bytes else 88 + 4 * length bytes

-- the text that an opcode makes of the bytes of its argument, if it makes one
abbrev pub written_memory : Op → List ℕ → ℕ
written_memory op.Unicode bytes = line_memory bytes
written_memory op.ShortBinUnicode bytes = text_memory bytes
written_memory op.BinUnicode bytes = text_memory bytes
written_memory op.BinUnicode8 bytes = text_memory bytes
written_memory _ bytes = 0

-- an object without operands, given the size of the argument; small ints, None, bools and the empty
-- tuple are shared
abbrev pub plain_memory : Op → ℕ → ℕ
plain_memory op.BinInt size = 32
plain_memory op.BinInt2 size = 32
plain_memory op.Float size = 32
plain_memory op.BinFloat size = 32
plain_memory op.Int size = 32 + size / 2
plain_memory op.Long size = 32 + size / 2
plain_memory op.Long1 size = 32 + size * 8 / 7
plain_memory op.Long4 size = 32 + size * 8 / 7
plain_memory op.String size = 64 + size
plain_memory op.BinString size = 64 + size
plain_memory op.ShortBinString size = 64 + size
plain_memory op.BinBytes size = 64 + size
plain_memory op.ShortBinBytes size = 64 + size
plain_memory op.BinBytes8 size = 64 + size
plain_memory op.ByteArray8 size = 96 + size
plain_memory op.EmptyList size = 80
plain_memory op.EmptyDict size = 80
plain_memory op.EmptySet size = 240
plain_memory op.ReadonlyBuffer size = 480
plain_memory _ size = 0

-- the table of a set with this many items; a small one lies in the set
abbrev pub set_memory : ℕ → ℕ → ℕ
set_memory least items = if ltb 4 items then 144 * items else least + 8 * items

-- an object with this many operands, or what they add to their receiver, which is one of them
abbrev pub held_memory : Op → ℕ → ℕ
held_memory op.Tuple count = 64 + 8 * count
held_memory op.Tuple1 count = 64 + 8 * count
held_memory op.Tuple2 count = 64 + 8 * count
held_memory op.Tuple3 count = 64 + 8 * count
held_memory op.List count = 80 + 8 * count
held_memory op.Dict count = if ltb 0 count then 256 + 48 * count else 80
held_memory op.FrozenSet count = 240 + set_memory 0 count
held_memory op.Append count = 32
held_memory op.Appends count = 24 * count
held_memory op.SetItem count = 176
held_memory op.SetItems count = 128 + 48 * count
held_memory op.AddItems count = set_memory 128 (count - 1)
held_memory _ count = 0

-- the bytes of an argument's line or payload
abbrev pub argument_bytes : Argument → List ℕ
argument_bytes (Line line) = line
argument_bytes (Counted payload) = payload
argument_bytes _ = []

-- an operation with this many operands
abbrev pub operation_memory : Instruction → ℕ → ℕ
operation_memory i count =
    16 + (plain_memory i.op (argument_size i.arg)
    + (held_memory i.op count + written_memory i.op (argument_bytes i.arg)))

-- the memo number under which a move stores, otherwise 0; `kept` is the number of objects in the
-- memo
abbrev pub number_kept : Move → (number kept : ℕ) → ℕ
number_kept Stores number kept = number
number_kept StoresNext number kept = kept
number_kept _ number kept = 0

-- a move that stores under a number so far above the highest before. CPython's memo is an array
abbrev pub move_memory : Move → ℕ → ℕ
move_memory PushesMark grown = 32
move_memory Stores grown = 32 + 16 * grown
move_memory StoresNext grown = 32 + 16 * grown
move_memory _ grown = 16
