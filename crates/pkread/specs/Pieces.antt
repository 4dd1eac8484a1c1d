-- Instructions as the frame rules of PEP 3154 see them.
use Rattle.std.specs.Prelude.{◌≡◌, ℕ, List, [], ◌∷◌, ◌++◌, length, map, None, Some}
use Rattle.pkops.specs.declared.Op.{Op}
use Rattle.pkops.specs.declared.Op.TheVariants.{Frame, Stop}
use Rattle.pkops.specs.Spelling.{Argument, Number, Instruction, spelling}
use Rattle.pkread.specs.Framing.{Framed, IsFramed, Piece, Role, counted, counted_all, frame, stop}
use Rattle.pkread.specs.Framing.{other}

-- the role of an opcode in the frame rules; n is the argument of FRAME
abbrev pub role_of : Op → ℕ → Role
role_of Frame n = frame n
role_of Stop n = stop
role_of _ n = other

-- the number in an unsigned argument, otherwise 0
abbrev pub number_of : Argument → ℕ
number_of (Number width n) = n
number_of _ = 0

-- the length of an instruction is that of its spelling
abbrev pub piece_of : Instruction → Piece
piece_of i = record { length = length (spelling i); role = role_of i.op (number_of i.arg) }

-- if the rule accepts the instructions and then one more, that one obeys the frame rules after them
abbrev pub FramesGoOn : Type 0
FramesGoOn =
    (before : List Instruction) (i : Instruction) (left after : ℕ) →
    counted_all 0 (map piece_of before) ≡ Some left →
    counted left (piece_of i) ≡ Some after →
    (counted_all 0 (map piece_of (before ++ i ∷ [])) ≡ Some after)
    × IsFramed (map piece_of before) (piece_of i) []

-- every list that the rule accepts obeys the frame rules
abbrev pub FramesHold : Type 0
FramesHold =
    (instructions : List Instruction) (left : ℕ) →
    counted_all 0 (map piece_of instructions) ≡ Some left → Framed (map piece_of instructions)

-- an instruction that the rule refuses breaks the frame rules after those that it accepted
abbrev pub FramesBreak : Type 0
FramesBreak =
    (before : List Instruction) (i : Instruction) (left : ℕ) →
    counted_all 0 (map piece_of before) ≡ Some left →
    counted left (piece_of i) ≡ None →
    IsFramed (map piece_of before) (piece_of i) [] → ⊥
