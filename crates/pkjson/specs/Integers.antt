-- The integers that arguments name.
use Rattle.std.specs.Prelude.{ℕ, ◌-◌, ◌*◌, ◌+◌, ◌^◌, ltb, nat_eq, nat_le, Bool, false, cond, ℤ, pos}
use Rattle.std.specs.Prelude.{negsuc, neg_ℤ, List, [], ◌∷◌, Option, Some, None}
use Rattle.pkops.specs.Spelling.{Argument, Number, Signed, Line, Counted}

-- the digits after those of n, up to the L that may end a line of LONG
abbrev pub decimal_after : ℕ → List ℕ → ℕ
decimal_after n [] = n
decimal_after n (c ∷ cs) = cond (nat_eq c 76) n (decimal_after (n * 10 + (c - 48)) cs)

-- the integer in a line: digits, after a minus if it is negative
abbrev pub line_integer : List ℕ → ℤ
line_integer [] = pos 0
line_integer (c ∷ cs) =
    cond (nat_eq c 45) (neg_ℤ (pos (decimal_after 0 cs))) (pos (decimal_after 0 (c ∷ cs)))

-- the sign bit of little-endian bytes
abbrev pub has_sign : List ℕ → Bool
has_sign [] = false
has_sign (b ∷ []) = nat_le 128 b
has_sign (b ∷ c ∷ bs) = has_sign (c ∷ bs)

-- the natural number of the bytes, or of their complements if `flip` is true
abbrev pub natural : Bool → List ℕ → ℕ
natural flip [] = 0
natural flip (b ∷ bs) = cond flip (255 - b) b + natural flip bs * 256

-- little-endian two's complement, as CPython's `pickletools.decode_long` reads it: if the sign bit
-- is set, the complements of the bytes spell the distance from -1
abbrev pub twos_complement : List ℕ → ℤ
twos_complement bs =
    cond (has_sign bs) (negsuc (natural (has_sign bs) bs)) (pos (natural (has_sign bs) bs))

-- the integer that an argument names: a number, a line of digits, or the bytes of LONG1 and LONG4
abbrev pub integer_named : Argument → ℤ
integer_named (Signed z) = z
integer_named (Number width n) = pos n
integer_named (Line line) = line_integer line
integer_named (Counted bytes) = twos_complement bytes
integer_named arg = pos 0

-- the integer fits 64 signed bits
abbrev pub fits_word : ℤ → Bool
fits_word (pos n) = ltb n (2 ^ 63)
fits_word (negsuc n) = ltb n (2 ^ 63)

-- the integer, if it fits
abbrev pub word_of : ℤ → Option ℤ
word_of z = cond (fits_word z) (Some z) None
