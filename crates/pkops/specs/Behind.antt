-- The argument of an instruction in each form that holds it.
use Rattle.std.specs.Prelude.{ℕ, ◌+◌, ◌-◌, List, length, take, drop}
use Rattle.std.specs.Int.{w32, cast_signed}
use Rattle.byteorder.specs.Endian.{little_number}
use Rattle.pkops.specs.declared.form.Form.{Form}
use Rattle.pkops.specs.declared.form.Form.TheVariants as form
use Rattle.pkops.specs.declared.layout.Layout.TheVariants as layout
use Rattle.pkops.specs.KnownLayout.{split_of}
use Rattle.pkops.specs.Spelling.{Op, Argument, Nothing, Number, Signed, Float, Line, Pair, Counted}
use Rattle.pkops.specs.Spelling.{Layout, instruction, layout_at, shown_arg, size_of, spelling}

-- the argument that bytes spell after their code; `split` is the length of the first of two lines
abbrev pub argument_behind : Layout → ℕ → List ℕ → Argument
argument_behind layout.Nothing split bytes = Nothing
argument_behind layout.U1 split bytes = Number 1 (little_number 1 (drop 1 bytes))
argument_behind layout.U2 split bytes = Number 2 (little_number 2 (drop 1 bytes))
argument_behind layout.I4 split bytes = Signed (cast_signed w32 (little_number 4 (drop 1 bytes)))
argument_behind layout.U4 split bytes = Number 4 (little_number 4 (drop 1 bytes))
argument_behind layout.U8 split bytes = Number 8 (little_number 8 (drop 1 bytes))
argument_behind layout.F8 split bytes = Float (drop 1 bytes)
argument_behind (layout.Line most) split bytes = Line (take (length bytes - 2) (drop 1 bytes))
argument_behind (layout.Pair most) split bytes =
    Pair (take split (drop 1 bytes)) (take (length bytes - split - 3) (drop (split + 2) bytes))
argument_behind (layout.Counted size signed) split bytes = Counted (drop (size_of size + 1) bytes)

-- the argument of an opcode, in either form
abbrev pub argument_in : Op → Form → Argument
argument_in op (form.Made arg) = shown_arg arg
argument_in op (form.Spelled split bytes) = argument_behind (layout_at op) split bytes.now

-- the bytes that spell an opcode with its argument, in either form
abbrev pub spelled_by : Op → Form → List ℕ
spelled_by op (form.Made arg) = spelling (instruction op (shown_arg arg))
spelled_by op (form.Spelled split bytes) = bytes.now

-- the length of the first of two lines
abbrev pub split_by : Form → ℕ
split_by (form.Made arg) = split_of (shown_arg arg)
split_by (form.Spelled split bytes) = split
