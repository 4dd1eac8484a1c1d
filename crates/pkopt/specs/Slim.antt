-- A pickle without its frames and without the memo writes that nothing reads. The remaining writes
-- are numbered 0, 1, 2, and so on, and each read gets the new number of the write that it reads.
use Rattle.std.specs.Prelude.{ℕ, Bool, true, false, cond, ltb, List, [], ◌∷◌, ◌++◌, length, Option}
use Rattle.std.specs.Prelude.{None, Some}
use Rattle.std.specs.Fmt.{decimal}
use Rattle.pkops.specs.declared.Op.{Op}
use Rattle.pkops.specs.declared.Op.TheVariants as op
use Rattle.pkops.specs.Spelling.{Argument, Nothing, Number, Line, Instruction, instruction}
use Rattle.pkops.specs.Operands.{memo_number}
use Rattle.pkstack.specs.declared.Move.TheVariants.{Stores, StoresNext, Fetches}
use Rattle.pkmachine.specs.Effects.{Effect, Moves, effect_of}
use Rattle.pkopt.specs.Writers.{Writes, last_write, after, sources, is_read, new_number}

-- the opcode for a number: the one-byte binary form below 256, the four-byte form from there on
abbrev pub form_of : Op → ℕ → Op
form_of op.BinPut n = cond (ltb n 256) op.BinPut op.LongBinPut
form_of op.LongBinPut n = cond (ltb n 256) op.BinPut op.LongBinPut
form_of op.BinGet n = cond (ltb n 256) op.BinGet op.LongBinGet
form_of op.LongBinGet n = cond (ltb n 256) op.BinGet op.LongBinGet
form_of o n = o

-- the argument of such an opcode for this number
abbrev pub argument_for : Op → ℕ → Argument
argument_for op.Put n = Line (decimal n)
argument_for op.Get n = Line (decimal n)
argument_for op.BinPut n = Number 1 n
argument_for op.BinGet n = Number 1 n
argument_for op.LongBinPut n = Number 4 n
argument_for op.LongBinGet n = Number 4 n
argument_for o n = Nothing

-- the instruction with another number
abbrev pub renumbered : ℕ → Instruction → Instruction
renumbered n i = instruction (form_of i.op n) (argument_for (form_of i.op n) n)

-- what is left of a read, given the write that it reads
abbrev pub read_left : List (Option ℕ) → Option ℕ → Instruction → List Instruction
read_left vs (Some w) i = renumbered (new_number vs w) i ∷ []
read_left vs None i = i ∷ []

-- a FRAME
abbrev pub is_frame : Op → Bool
is_frame op.Frame = true
is_frame o = false

-- what is left of an instruction with this effect after the writes `ws`, where `vs` lists the
-- writes that all reads read
abbrev pub left_of : List (Option ℕ) → Writes → Effect → Instruction → List Instruction
left_of vs ws (Moves Stores) i =
    cond (is_read (length ws) vs) (renumbered (new_number vs (length ws)) i ∷ []) []
left_of vs ws (Moves StoresNext) i = cond (is_read (length ws) vs) (i ∷ []) []
left_of vs ws (Moves Fetches) i = read_left vs (last_write (memo_number i) ws) i
left_of vs ws e i = cond (is_frame i.op) [] (i ∷ [])

-- what is left of these instructions
abbrev pub slim_from : List (Option ℕ) → Writes → List Instruction → List Instruction
slim_from vs ws [] = []
slim_from vs ws (i ∷ is) = left_of vs ws (effect_of i.op) i ++ slim_from vs (after i ws) is

-- the slim form
abbrev pub slim : List Instruction → List Instruction
slim p = slim_from (sources [] p) [] p
