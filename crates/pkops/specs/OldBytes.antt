-- The bytes of Python 2 strings (type `str`): the payload of BINSTRING and SHORT_BINSTRING, and
-- what the line of STRING spells between its quotes, as Python's codec `string_escape` reads it.
use Rattle.std.specs.Prelude.{◌≡◌, ℕ, ◌-◌, Bool, ◌&&◌, ◌==◌, nat_le, if◌then◌else◌, List, [], ◌∷◌}
use Rattle.std.specs.Prelude.{◌++◌, length, take, drop, map, slice_index, Option, Some, None, All}
use Rattle.std.specs.Prelude.{flat_map, option_map}
use Rattle.std.specs.Str.Parse.{digits_value}
use Rattle.pkops.specs.declared.op.Op.TheVariants as op
use Rattle.pkops.specs.RuleTests.{is_quote}
use Rattle.pkops.specs.OldStrings.{Item, plain, escape, hex, print_item, IsItem, IsQuote, items_of}
use Rattle.pkops.specs.Spelling.{Op, Argument, Line, Counted, Instruction}

-- the byte that an escape letter stands for: line feed for n, carriage return for r, tab for t; any
-- other stands for itself
abbrev pub letter_byte : ℕ → ℕ
letter_byte letter =
    if letter == 110 then 0x0a
    else (if letter == 114 then 0x0d else (if letter == 116 then 0x09 else letter))

-- the byte that an item stands for
abbrev pub byte_of : Item → ℕ
byte_of (plain byte) = byte
byte_of (escape letter) = letter_byte letter
byte_of (hex high low) = digits_value 16 (high ∷ low ∷ [])

-- the line of STRING spells these bytes
abbrev pub SpellsBytes : (line bytes : List ℕ) → Type 0
SpellsBytes line bytes =
    (quote : ℕ) × (items : List Item)
    × IsQuote quote × All (IsItem quote) items
    × (line ≡ quote ∷ flat_map print_item items ++ quote ∷ []) × (bytes ≡ map byte_of items)

-- the argument holds these bytes of a Python 2 string
abbrev pub NamesBytesBy : Op → Argument → List ℕ → Type 0
NamesBytesBy op.String (Line line) bytes = SpellsBytes line bytes
NamesBytesBy op.BinString (Counted payload) bytes = bytes ≡ payload
NamesBytesBy op.ShortBinString (Counted payload) bytes = bytes ≡ payload
NamesBytesBy _ _ bytes = ⊥

-- the instruction holds these bytes of a Python 2 string
abbrev pub NamesBytes : Instruction → List ℕ → Type 0
NamesBytes i bytes = NamesBytesBy i.op i.arg bytes

-- ---- the same as functions

-- at least two bytes, the first and the last the same quote
abbrev pub is_in_quotes : List ℕ → Bool
is_in_quotes line =
    nat_le 2 (length line)
    && (is_quote (slice_index line 0)
    && (slice_index line (length line - 1) == slice_index line 0))

-- the bytes that the text between two quotes spells, if it is a sequence of items
abbrev pub bytes_between : (quote : ℕ) → List ℕ → Option (List ℕ)
bytes_between quote inside = option_map (map byte_of) (items_of quote inside)

-- the bytes that a line spells, if it spells any
abbrev pub bytes_of_line : List ℕ → Option (List ℕ)
bytes_of_line line =
    if is_in_quotes line
    then bytes_between (slice_index line 0) (take (length line - 2) (drop 1 line))
    else None

-- the bytes of the Python 2 string that the argument holds, if it holds one
abbrev pub bytes_by : Op → Argument → Option (List ℕ)
bytes_by op.String (Line line) = bytes_of_line line
bytes_by op.BinString (Counted payload) = Some payload
bytes_by op.ShortBinString (Counted payload) = Some payload
bytes_by _ _ = None

-- the bytes of the Python 2 string that the instruction holds, if it holds one
abbrev pub old_bytes : Instruction → Option (List ℕ)
old_bytes i = bytes_by i.op i.arg
