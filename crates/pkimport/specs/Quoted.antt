-- Bytes between double quotes, on one line and in ASCII.
use Rattle.std.specs.Prelude.{ℕ, ◌/◌, ◌%◌, Bool, false, ◌==◌, ◌&&◌, ◌||◌, not, nat_le}
use Rattle.std.specs.Prelude.{if◌then◌else◌, List, [], ◌∷◌, ◌++◌, codes}
use Rattle.std.specs.List.{flat_map}
use Rattle.std.specs.Fmt.{digit_glyph}

-- bytes printed as they are: 20 to 7e, except `"` (22) and `\` (5c)
abbrev pub stands_as_is : ℕ → Bool
stands_as_is byte = nat_le 0x20 byte && (nat_le byte 0x7e && not (byte == 0x22 || byte == 0x5c))

-- the two digits of a byte, in lower-case hexadecimal
abbrev pub two_digits : ℕ → List ℕ
two_digits byte = digit_glyph false (byte / 16) ∷ digit_glyph false (byte % 16) ∷ []

-- the byte as it is if it is plain, otherwise `\x` and its two digits
abbrev pub quoted_byte : ℕ → List ℕ
quoted_byte byte = if stands_as_is byte then byte ∷ [] else codes "\\x" ++ two_digits byte

-- the bytes, each as above, between double quotes
abbrev pub quoted : List ℕ → List ℕ
quoted bytes = codes "\"" ++ (flat_map quoted_byte bytes ++ codes "\"")
