-- Numbers in decimal digits, as protocol 0 spells them: the lines of INT, LONG, GET and PUT, the
-- arguments `decimalnl_short` and `decimalnl_long` of CPython's `pickletools`. Each number has one
-- spelling, the one that CPython's pickler writes. Python's `int` also accepts a plus, leading
-- zeros, spaces and underscores; these are refused here.
use Rattle.std.specs.Prelude.{◌≡◌, ◌⊎◌, ℕ, ◌^◌, ◌<◌, Bool, true, ◌||◌, List, ◌∷◌, ◌++◌, codes}
use Rattle.std.specs.Int.{is_in_range}
use Rattle.std.specs.List.{AllPass}
use Rattle.std.specs.Char.{is_ascii_digit}
use Rattle.std.specs.Str.{bytes_eq}
use Rattle.std.specs.Str.Parse.{digits_value}

-- nonzero = "1" to "9"
abbrev pub is_nonzero_digit : ℕ → Bool
is_nonzero_digit byte = is_in_range 49 57 byte

-- positive = nonzero *digit
abbrev pub IsPositive : List ℕ → Type 0
IsPositive text =
    (first : ℕ) × (rest : List ℕ)
    × (is_nonzero_digit first ≡ true) × AllPass is_ascii_digit rest × (text ≡ first ∷ rest)

-- natural = "0" / positive
abbrev pub IsNatural : List ℕ → Type 0
IsNatural text = (text ≡ codes "0") ⊎ IsPositive text

-- numeral = natural / "-" positive
abbrev pub IsNumeral : List ℕ → Type 0
IsNumeral text =
    IsNatural text ⊎ ((digits : List ℕ) × IsPositive digits × (text ≡ codes "-" ++ digits))

-- how INT spells False and True in protocols 0 and 1 (PEP 307, Pickling bools, gave them opcodes)
abbrev pub is_bool_line : List ℕ → Bool
is_bool_line line = bytes_eq line (codes "00") || bytes_eq line (codes "01")

-- the line of INT: False, True or a numeral
abbrev pub IsIntLine : List ℕ → Type 0
IsIntLine line = (is_bool_line line ≡ true) ⊎ IsNumeral line

-- the line of LONG: a numeral with an optional L after it, as Python 2 printed long numbers
abbrev pub IsLongLine : List ℕ → Type 0
IsLongLine line =
    IsNumeral line ⊎ ((numeral : List ℕ) × IsNumeral numeral × (line ≡ numeral ++ codes "L"))

-- the line of GET and PUT: a natural number that 32 bits hold, like the argument of LONG_BINGET
pub record IsMemoNumber (line : List ℕ) : Type 0 where
  pub natural : IsNatural line
  pub small : digits_value 10 line < 2 ^ 32
