-- Floats in decimal digits, as protocol 0 spells them: the line of FLOAT, the argument `floatnl` of
-- CPython's `pickletools`. The grammar accepts every text that Python's `repr` gives a float. It is
-- stricter than Python's `float`: no leading plus, underscores, upper case or spaces.
use Rattle.std.specs.Prelude.{◌≡◌, ◌⊎◌, ℕ, ◌<◌, List, [], ◌++◌, length, codes}
use Rattle.std.specs.List.{AllPass}
use Rattle.std.specs.Char.{is_ascii_digit}

-- digits = 1*digit
pub record IsDigits (text : List ℕ) : Type 0 where
  pub some : 0 < length text
  pub digits : AllPass is_ascii_digit text

-- fraction = "." digits
abbrev pub IsFraction : List ℕ → Type 0
IsFraction text = (digits : List ℕ) × IsDigits digits × (text ≡ codes "." ++ digits)

-- sign = "+" / "-"
abbrev pub IsSign : List ℕ → Type 0
IsSign text = (text ≡ codes "+") ⊎ (text ≡ codes "-")

-- exponent = "e" sign digits
abbrev pub IsExponent : List ℕ → Type 0
IsExponent text =
    (sign : List ℕ) × (digits : List ℕ)
    × IsSign sign × IsDigits digits × (text ≡ codes "e" ++ (sign ++ digits))

-- [part]: the part, or nothing
abbrev pub Optional : (List ℕ → Type 0) → List ℕ → Type 0
Optional IsPart text = (text ≡ []) ⊎ IsPart text

-- decimal = digits [fraction] [exponent]
pub record IsDecimal (text : List ℕ) : Type 0 where
  pub whole : List ℕ
  pub fraction : List ℕ
  pub exponent : List ℕ
  pub whole_is : IsDigits whole
  pub fraction_is : Optional IsFraction fraction
  pub exponent_is : Optional IsExponent exponent
  pub parts : text ≡ whole ++ (fraction ++ exponent)

-- unsigned = "inf" / "nan" / decimal
abbrev pub IsUnsigned : List ℕ → Type 0
IsUnsigned text = (text ≡ codes "inf") ⊎ (text ≡ codes "nan") ⊎ IsDecimal text

-- float = ["-"] unsigned
abbrev pub IsFloatLine : List ℕ → Type 0
IsFloatLine line =
    IsUnsigned line ⊎ ((rest : List ℕ) × IsUnsigned rest × (line ≡ codes "-" ++ rest))
