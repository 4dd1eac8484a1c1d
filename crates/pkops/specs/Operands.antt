-- What the arguments of some instructions name: memo entries, bools, and pairs.
use Rattle.std.specs.Prelude.{ℕ, Bool, true, false, if◌then◌else◌, List, Option, Some, None}
use Rattle.std.specs.Prelude.{unwrap_or}
use Rattle.std.specs.Str.Parse.{digits_value}
use Rattle.pkops.specs.declared.op.Op.TheVariants as op
use Rattle.pkops.specs.Numerals.{is_bool_line}
use Rattle.pkops.specs.Spelling.{Op, Argument, Number, Line, Pair, Instruction}

-- opcodes whose argument is a memo number
abbrev pub names_memo_entry : Op → Bool
names_memo_entry op.Get = true
names_memo_entry op.BinGet = true
names_memo_entry op.LongBinGet = true
names_memo_entry op.Put = true
names_memo_entry op.BinPut = true
names_memo_entry op.LongBinPut = true
names_memo_entry _ = false

-- the number in an argument, binary or decimal
abbrev pub number_said : Argument → Option ℕ
number_said (Number width number) = Some number
number_said (Line digits) = Some (digits_value 10 digits)
number_said _ = None

-- the memo number that an instruction names
abbrev pub memo_entry : Instruction → Option ℕ
memo_entry i = if names_memo_entry i.op then number_said i.arg else None

-- the memo number, for instructions known to name one; 0 otherwise
abbrev pub memo_number : Instruction → ℕ
memo_number i = unwrap_or (memo_entry i) 0

-- the opcode is INT and the argument a line that spells a bool
abbrev pub names_bool_by : Op → Argument → Bool
names_bool_by op.Int (Line line) = is_bool_line line
names_bool_by _ _ = false

-- the instruction is an INT that makes a bool
abbrev pub names_bool : Instruction → Bool
names_bool i = names_bool_by i.op i.arg

-- the module and the name in an argument of two lines
abbrev pub lines_named : Argument → Option (List ℕ × List ℕ)
lines_named (Pair first second) = Some (first, second)
lines_named _ = None

-- the pair that GLOBAL or INST names: a module and a name in it
abbrev pub pair_named : Instruction → Option (List ℕ × List ℕ)
pair_named i = lines_named i.arg
