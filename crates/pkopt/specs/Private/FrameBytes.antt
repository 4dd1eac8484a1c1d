-- Putting a FRAME into the bytes of a pickle.
use Rattle.std.specs.Prelude.{ℕ, ◌-◌, cond, nat_eq, nat_le, List, [], ◌∷◌, ◌++◌, length, take, drop}
use Rattle.pkops.specs.declared.Op.TheVariants.{Frame}
use Rattle.pkops.specs.Spelling.{Number, instruction, spelling}
use Rattle.pkopt.specs.declared.measure.Measure.{Measure}

-- the number of bytes before the frame: two for a leading PROTO, otherwise 0
abbrev pub head_length : List ℕ → ℕ
head_length (code ∷ protocol ∷ bytes) = cond (nat_eq code 128) 2 0
head_length bytes = 0

-- the FRAME around this many bytes
abbrev pub frame_before : ℕ → List ℕ
frame_before count = spelling (instruction Frame (Number 8 count))

-- the bytes with one frame around all except the head
abbrev pub framed_bytes : List ℕ → List ℕ
framed_bytes bytes =
    take (head_length bytes) bytes
    ++ (frame_before (length bytes - head_length bytes) ++ drop (head_length bytes) bytes)

-- the length of the head of bytes with this measure
abbrev pub head_from : Measure → ℕ
head_from m = cond (nat_le 2 m.len) (cond (nat_eq m.first 128) 2 0) 0

-- their head and the FRAME
abbrev pub front_from : Measure → List ℕ
front_from m =
    take (head_from m) (m.first ∷ m.second ∷ []) ++ frame_before (m.len - head_from m)
