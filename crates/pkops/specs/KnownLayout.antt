-- Bytes whose layout is known.
use Rattle.std.specs.Prelude.{◌≡◌, ℕ, ◌<◌, Bool, List, length, slice_index, ⊤}
use Rattle.byteorder.specs.Endian.{little_number}
use Rattle.pkops.specs.declared.layout.Layout.{Layout}
use Rattle.pkops.specs.declared.layout.Layout.TheVariants as layout
use Rattle.pkops.specs.declared.layout.Width.{Width}
use Rattle.pkops.specs.Spelling.{Op, Argument, Pair, instruction, layout_at, spelling, size_of}
use Rattle.pkops.specs.Scans.{IsLaid}

-- the length of the first of two lines; 0 for any other argument
abbrev pub split_of : Argument → ℕ
split_of (Pair first second) = length first
split_of _ = 0

-- the bytes are exactly the opcode and its argument, good or not; `split` is `split_of` the
-- argument
pub record Lies (limit : ℕ) (op : Op) (arg : Argument) (split : ℕ) (bytes : List ℕ) : Type 0 where
  pub laid : IsLaid limit (instruction op arg)
  pub spelled : bytes ≡ spelling (instruction op arg)
  pub split_is : split ≡ split_of arg

-- the length of the fixed-size field after the code: a number, a float or a count
abbrev pub field_len : Layout → ℕ
field_len layout.Nothing = 0
field_len layout.U1 = 1
field_len layout.U2 = 2
field_len layout.I4 = 4
field_len layout.U4 = 4
field_len layout.U8 = 8
field_len layout.F8 = 8
field_len (layout.Line most) = 0
field_len (layout.Pair most) = 0
field_len (layout.Counted size signed) = size_of size

-- the field is the whole argument
abbrev pub IsFixed : Layout → Type 0
IsFixed (layout.Line most) = ⊥
IsFixed (layout.Pair most) = ⊥
IsFixed (layout.Counted size signed) = ⊥
IsFixed _ = ⊤

-- the number in a count field
abbrev pub count_in : Width → List ℕ → ℕ
count_in size field = little_number (size_of size) field

-- each number is a byte
abbrev pub AreBytes : List ℕ → Type 0
AreBytes bytes = (i : ℕ) → slice_index bytes i < 256

-- the count field of the opcode
pub record IsCountField (op : Op) (size : Width) (signed : Bool) (field : List ℕ) : Type 0 where
  pub lay : layout_at op ≡ layout.Counted size signed
  pub len : length field ≡ size_of size
