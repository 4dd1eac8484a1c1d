-- Instructions and their spelling: a code, then an argument laid out by its kind, as in the
-- argument descriptors of CPython's `pickletools` (`read_uint1` to `read_unicodestring8`). An
-- argument is kept as it was spelled, so an instruction has exactly one spelling. The 25 kinds have
-- ten layouts; `Contents` says which contents are good beyond the layout.
use Rattle.std.specs.Prelude.{◌≡◌, ◌≢◌, ℕ, ℤ, ◌-◌, ◌*◌, ◌^◌, ◌<◌, ◌≤◌, Bool, true, false, List, []}
use Rattle.std.specs.Prelude.{◌∷◌, ◌++◌, length, FitsSigned, ⊤}
use Rattle.std.specs.List.{AllByRecursion}
use Rattle.std.specs.Int.{w32, cast_unsigned}
use Rattle.byteorder.specs.Endian.{little_bytes}
pub use Rattle.pkops.specs.declared.op.Op.{Op}
use Rattle.pkops.specs.declared.op.Kind.TheVariants as kind
pub use Rattle.pkops.specs.declared.layout.Layout.{Layout}
use Rattle.pkops.specs.declared.layout.Layout.TheVariants as layout
pub use Rattle.pkops.specs.declared.layout.Width.{Width}
use Rattle.pkops.specs.declared.layout.Width.TheVariants as width
use Rattle.pkops.specs.declared.arg.Arg.{Arg}
use Rattle.pkops.specs.declared.arg.Arg.TheVariants as arg
use Rattle.pkops.specs.Table.{Kind, code_of, kind_of}

-- an argument as a value, whatever memory holds it: nothing, a number of `width` bytes, a signed
-- number of four bytes, the bytes of a float, a line, two lines, or a counted payload
pub data Argument : Type 0 where
  Nothing : Argument
  Number : (width value : ℕ) → Argument
  Signed : ℤ → Argument
  Float : List ℕ → Argument
  Line : List ℕ → Argument
  Pair : (first second : List ℕ) → Argument
  Counted : List ℕ → Argument

-- an opcode and an argument
pub record Instruction : Type 0 where
  pub op : Op
  pub arg : Argument

-- the instruction with this opcode and argument, good or not
abbrev pub instruction : Op → Argument → Instruction
instruction op arg = record { op = op; arg = arg }

-- the argument that the program's `Arg` stands for
abbrev pub shown_arg : Arg → Argument
shown_arg arg.None = Nothing
shown_arg (arg.U1 n) = Number 1 n
shown_arg (arg.U2 n) = Number 2 n
shown_arg (arg.I4 z) = Signed z
shown_arg (arg.U4 n) = Number 4 n
shown_arg (arg.U8 n) = Number 8 n
shown_arg (arg.F8 bytes) = Float bytes.now
shown_arg (arg.Line text) = Line text.now
shown_arg (arg.Pair first second) = Pair first.now second.now
shown_arg (arg.Counted payload) = Counted payload.now

-- the layout of each kind; this project limits a line to 1,024 bytes for an int or a memo number,
-- and to 65,536 bytes otherwise
abbrev pub layout_of : Kind → Layout
layout_of kind.None = layout.Nothing
layout_of kind.Uint1 = layout.U1
layout_of kind.Uint2 = layout.U2
layout_of kind.Int4 = layout.I4
layout_of kind.Uint4 = layout.U4
layout_of kind.Uint8 = layout.U8
layout_of kind.Float8 = layout.F8
layout_of kind.DecimalnlShort = layout.Line 1024
layout_of kind.DecimalnlLong = layout.Line 1024
layout_of kind.Floatnl = layout.Line 65536
layout_of kind.Stringnl = layout.Line 65536
layout_of kind.StringnlNoescape = layout.Line 65536
layout_of kind.Unicodestringnl = layout.Line 65536
layout_of kind.StringnlNoescapePair = layout.Pair 65536
layout_of kind.String1 = layout.Counted width.One false
layout_of kind.Bytes1 = layout.Counted width.One false
layout_of kind.Long1 = layout.Counted width.One false
layout_of kind.Unicodestring1 = layout.Counted width.One false
layout_of kind.Bytes4 = layout.Counted width.Four false
layout_of kind.Unicodestring4 = layout.Counted width.Four false
layout_of kind.String4 = layout.Counted width.Four true
layout_of kind.Long4 = layout.Counted width.Four true
layout_of kind.Bytes8 = layout.Counted width.Eight false
layout_of kind.Bytearray8 = layout.Counted width.Eight false
layout_of kind.Unicodestring8 = layout.Counted width.Eight false

-- the width of a count field in bytes
abbrev pub size_of : Width → ℕ
size_of width.One = 1
size_of width.Four = 4
size_of width.Eight = 8

-- the least number too large for a count field of this width
abbrev pub count_limit : Width → Bool → ℕ
count_limit size true = 2 ^ (8 * size_of size - 1)
count_limit size false = 256 ^ size_of size

-- the byte that ends a line
abbrev pub line_feed : ℕ
line_feed = 10

-- a line of at most `most` bytes, without its line feed
pub record IsLine (most : ℕ) (text : List ℕ) : Type 0 where
  pub short : length text ≤ most
  pub whole : AllByRecursion (λ byte. byte ≢ line_feed) text

-- the argument fits the layout: its numbers, lines and counts are in range
abbrev pub Suits : Layout → Argument → Type 0
Suits layout.Nothing Nothing = ⊤
Suits layout.U1 (Number width n) = (width ≡ 1) × (n < 256 ^ 1)
Suits layout.U2 (Number width n) = (width ≡ 2) × (n < 256 ^ 2)
Suits layout.U4 (Number width n) = (width ≡ 4) × (n < 256 ^ 4)
Suits layout.U8 (Number width n) = (width ≡ 8) × (n < 256 ^ 8)
Suits layout.I4 (Signed z) = FitsSigned w32 z
Suits layout.F8 (Float bytes) = length bytes ≡ 8
Suits (layout.Line most) (Line text) = IsLine most text
Suits (layout.Pair most) (Pair first second) = IsLine most first × IsLine most second
Suits (layout.Counted size signed) (Counted payload) = length payload < count_limit size signed
Suits _ _ = ⊥

-- the bytes of an argument by its layout: numbers and counts are little-endian, signed numbers are
-- in two's complement, and each line ends in a line feed
abbrev pub bytes_of : Argument → Layout → List ℕ
bytes_of Nothing _ = []
bytes_of (Number width n) _ = little_bytes width n
bytes_of (Signed z) _ = little_bytes 4 (cast_unsigned w32 z)
bytes_of (Float bytes) _ = bytes
bytes_of (Line text) _ = text ++ line_feed ∷ []
bytes_of (Pair first second) _ = (first ++ line_feed ∷ []) ++ (second ++ line_feed ∷ [])
bytes_of (Counted payload) (layout.Counted size signed) =
    little_bytes (size_of size) (length payload) ++ payload
bytes_of (Counted payload) _ = payload

-- `bytes_of` with the layout first
abbrev pub laid : Layout → Argument → List ℕ
laid lay arg = bytes_of arg lay

-- the layout of an opcode's argument
abbrev pub layout_at : Op → Layout
layout_at op = layout_of (kind_of op)

-- the bytes of an instruction: its code, then its argument
abbrev pub spelling : Instruction → List ℕ
spelling i = code_of i.op ∷ laid (layout_at i.op) i.arg
