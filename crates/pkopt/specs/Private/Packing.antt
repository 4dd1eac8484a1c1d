-- A part of a pickle in two bytes: a gap, and a code for the opcode and the length.
use Rattle.std.specs.Prelude.{ℕ, ◌+◌, ◌-◌, ◌*◌, cond, nat_eq, ltb}
use Rattle.pkops.specs.declared.Op.{Op}
use Rattle.pkops.specs.declared.Op.TheVariants as op
use Rattle.pkopt.specs.declared.place.Part.{Part}

-- a part from its fields
abbrev pub part_with : (gap size : ℕ) → Op → Part
part_with gap size op = record { size = size; gap = gap; op = op }

-- a part of which the code gives the upper bits of the length, and the gap the lower ones
abbrev pub long_part : (gap upper : ℕ) → Op → Part
long_part gap upper op = part_with 0 (256 * upper + gap) op

-- an opcode that has one length
abbrev pub fixed : ℕ → ℕ → Part
fixed gap code =
    cond (nat_eq code 0) (part_with gap 1 op.Memoize)
    (cond (nat_eq code 1) (part_with gap 2 op.BinGet)
    (cond (nat_eq code 2) (part_with gap 5 op.LongBinPut)
    (cond (nat_eq code 3) (part_with gap 2 op.BinPut)
    (cond (nat_eq code 4) (part_with gap 5 op.LongBinGet)
    (cond (nat_eq code 5) (part_with gap 9 op.Frame) (part_with gap 0 op.Stop))))))

-- the part that the two bytes stand for
abbrev pub unpacked : (gap code : ℕ) → Part
unpacked gap code =
    cond (ltb code 8) (fixed gap code)
    (cond (ltb code 72) (part_with gap (code - 8) op.Get)
    (cond (ltb code 136) (part_with gap (code - 72) op.Put)
    (cond (ltb code 144) (long_part gap (code - 136) op.Get)
    (cond (ltb code 152) (long_part gap (code - 144) op.Put)
    (long_part gap (code - 152) op.Stop)))))
