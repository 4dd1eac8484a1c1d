-- The slim form inside one frame (PEP 3154), if the pickle had any.
use Rattle.std.specs.Prelude.{Bool, true, false, cond, ◌||◌, List, [], ◌∷◌, length}
use Rattle.pkops.specs.declared.Op.{Op}
use Rattle.pkops.specs.declared.Op.TheVariants as op
use Rattle.pkops.specs.Spelling.{Number, Instruction, instruction}
use Rattle.pkread.specs.Sequence.{spellings}
use Rattle.pkopt.specs.Slim.{is_frame, slim}

-- the opcode is PROTO
abbrev pub is_proto : Op → Bool
is_proto op.Proto = true
is_proto o = false

-- some instruction is a FRAME
abbrev pub has_frame : List Instruction → Bool
has_frame [] = false
has_frame (i ∷ is) = is_frame i.op || has_frame is

-- the FRAME around these instructions: its argument is their length in bytes
abbrev pub frame_around : List Instruction → Instruction
frame_around is = instruction op.Frame (Number 8 (length (spellings is)))

-- one frame around all instructions except a leading PROTO
abbrev pub in_frame : List Instruction → List Instruction
in_frame [] = []
in_frame (i ∷ is) = cond (is_proto i.op) (i ∷ frame_around is ∷ is) (frame_around (i ∷ is) ∷ i ∷ is)

-- the slim form, inside one frame if the pickle had any
abbrev pub optimized : List Instruction → List Instruction
optimized p = cond (has_frame p) (in_frame (slim p)) (slim p)
