-- Worked rows of the slim form and of the frame around it, computed.
use Rattle.std.proofs.Common.{◌≡◌, ℕ, List, [], ◌∷◌, refl, ap, arith}
use Rattle.std.proofs.lemmas.Fmt.{decimal_digit}
use Rattle.std.specs.Prelude.{codes}
use Rattle.pkops.specs.declared.Op.{Op}
use Rattle.pkops.specs.declared.Op.TheVariants.{EmptyList, BinPut, LongBinPut, None, Append, BinGet}
use Rattle.pkops.specs.declared.Op.TheVariants.{LongBinGet, Pop, Stop, Memoize, Proto, Frame, Put}
use Rattle.pkops.specs.declared.Op.TheVariants.{Get}
use Rattle.pkops.specs.Spelling.{Nothing, Number, Line, Instruction, instruction}
use Rattle.pkopt.specs.Slim.{slim}
use Rattle.pkopt.specs.OneFrame.{optimized}
use Rattle.pkopt.specs.Limit.{IsPastLimit}

abbrev bare : Op → Instruction
bare o = instruction o Nothing

abbrev short : Op → ℕ → Instruction
short o n = instruction o (Number 1 n)

abbrev frame : ℕ → Instruction
frame n = instruction Frame (Number 8 n)

-- a list that is appended to; of two writes one is read
unread : slim
    (bare EmptyList ∷ short BinPut 0 ∷ bare None ∷ short BinPut 1 ∷ bare Append ∷ short BinGet 0
    ∷ bare Pop ∷ bare Stop ∷ [])
    ≡ bare EmptyList ∷ short BinPut 0 ∷ bare None ∷ bare Append ∷ short BinGet 0 ∷ bare Pop
    ∷ bare Stop ∷ []
unread = refl

-- the second MEMOIZE is read, by the number 1, and then by the number 0
memoized : slim
    (bare EmptyList ∷ bare Memoize ∷ bare None ∷ bare Memoize ∷ bare Append ∷ short BinGet 1
    ∷ bare Pop ∷ bare Stop ∷ [])
    ≡ bare EmptyList ∷ bare None ∷ bare Memoize ∷ bare Append ∷ short BinGet 0 ∷ bare Pop
    ∷ bare Stop ∷ []
memoized = refl

-- a number of four bytes becomes one of one byte
shorter : slim
    (bare EmptyList ∷ instruction LongBinPut (Number 4 300) ∷ bare None ∷ bare Append
    ∷ instruction LongBinGet (Number 4 300) ∷ bare Pop ∷ bare Stop ∷ [])
    ≡ bare EmptyList ∷ short BinPut 0 ∷ bare None ∷ bare Append ∷ short BinGet 0 ∷ bare Pop
    ∷ bare Stop ∷ []
shorter = refl

-- lines stay lines
lines : slim
    (bare None ∷ instruction Put (Line (codes "7")) ∷ instruction Get (Line (codes "7")) ∷ bare Pop
    ∷ bare Stop ∷ [])
    ≡ bare None ∷ instruction Put (Line (codes "0")) ∷ instruction Get (Line (codes "0")) ∷ bare Pop
    ∷ bare Stop ∷ []
lines = ap
    (λ zero. bare None ∷ instruction Put (Line zero) ∷ instruction Get (Line zero) ∷ bare Pop
    ∷ bare Stop ∷ []) (decimal_digit 0 (omega arith))

-- a read reads the last write of its number
replaced : slim
    (bare None ∷ short BinPut 0 ∷ bare EmptyList ∷ short BinPut 0 ∷ bare Pop ∷ short BinGet 0
    ∷ bare Pop ∷ bare Stop ∷ [])
    ≡ bare None ∷ bare EmptyList ∷ short BinPut 0 ∷ bare Pop ∷ short BinGet 0 ∷ bare Pop ∷ bare Stop
    ∷ []
replaced = refl

abbrev twice : List Instruction
twice = bare None ∷ short BinPut 0 ∷ short BinGet 0 ∷ bare Pop ∷ short BinPut 0 ∷ short BinGet 0
    ∷ bare Pop ∷ bare Stop ∷ []

-- two writes of one number, both read
both_read : slim twice ≡ bare None ∷ short BinPut 0 ∷ short BinGet 0 ∷ bare Pop ∷ short BinPut 1
    ∷ short BinGet 1 ∷ bare Pop ∷ bare Stop ∷ []
both_read = refl

-- the second write would have the number 1, which is the limit
past : IsPastLimit 1 twice (bare None ∷ short BinPut 0 ∷ short BinGet 0 ∷ bare Pop ∷ [])
past = (_, _, refl, refl, refl, refl)

-- a frame stays as it is where nothing goes
same_frame : optimized (short Proto 4 ∷ frame 2 ∷ bare None ∷ bare Stop ∷ []) ≡ short Proto 4
    ∷ frame 2 ∷ bare None ∷ bare Stop ∷ []
same_frame = refl

shorter_frame : optimized (short Proto 4 ∷ frame 3 ∷ bare None ∷ bare Memoize ∷ bare Stop ∷ [])
    ≡ short Proto 4 ∷ frame 2 ∷ bare None ∷ bare Stop ∷ []
shorter_frame = refl

two_frames : optimized (short Proto 4 ∷ frame 1 ∷ bare None ∷ frame 1 ∷ bare Stop ∷ [])
    ≡ short Proto 4 ∷ frame 2 ∷ bare None ∷ bare Stop ∷ []
two_frames = refl

no_proto : optimized (bare None ∷ frame 1 ∷ bare Stop ∷ []) ≡ frame 2 ∷ bare None ∷ bare Stop ∷ []
no_proto = refl
