-- The content rules as boolean tests from left to right, for proofs by computation. They need not
-- be trusted: `laws::rules_are_computed` proves that each test holds exactly when its rule does.
use Rattle.std.specs.Prelude.{ℕ, ◌-◌, ◌^◌, Bool, true, false, ◌&&◌, ◌||◌, ◌==◌, nat_lt, nat_le}
use Rattle.std.specs.Prelude.{is_some, if◌then◌else◌, List, [], ◌∷◌, length, take, drop}
use Rattle.std.specs.Prelude.{slice_index}
use Rattle.std.specs.List.{list_all}
use Rattle.std.specs.Char.{is_ascii, is_ascii_digit}
use Rattle.std.specs.Str.Parse.{digits_value}
use Rattle.std.specs.Str.{is_utf8}
use Rattle.pkops.specs.declared.contents.Rule.{Rule}
use Rattle.pkops.specs.declared.contents.Rule.TheVariants as rule
use Rattle.pkops.specs.Numerals.{is_bool_line, is_nonzero_digit}
use Rattle.pkops.specs.OldStrings.{items_of}
use Rattle.pkops.specs.Escapes.{points_of}
use Rattle.pkops.specs.Spelling.{Argument, Line, Pair, Counted}

-- ---- numerals

-- the digit zero alone
abbrev pub is_zero : List ℕ → Bool
is_zero (digit ∷ []) = digit == 48
is_zero _ = false

-- a nonzero digit followed by digits
abbrev pub is_positive : List ℕ → Bool
is_positive [] = false
is_positive (first ∷ rest) = is_nonzero_digit first && list_all is_ascii_digit rest

-- zero or positive
abbrev pub is_natural : List ℕ → Bool
is_natural text = is_zero text || is_positive text

-- a minus followed by a positive number
abbrev pub is_negative : List ℕ → Bool
is_negative [] = false
is_negative (sign ∷ digits) = (sign == 45) && is_positive digits

-- natural or negative
abbrev pub is_numeral : List ℕ → Bool
is_numeral text = is_natural text || is_negative text

-- a bool or a numeral
abbrev pub is_int_line : List ℕ → Bool
is_int_line line = is_bool_line line || is_numeral line

-- the last byte is an L
abbrev pub ends_in_l : List ℕ → Bool
ends_in_l line = nat_lt 0 (length line) && (slice_index line (length line - 1) == 76)

-- the line without an L at its end
abbrev pub unmarked : List ℕ → List ℕ
unmarked line = if ends_in_l line then take (length line - 1) line else line

-- a numeral, with or without an L
abbrev pub is_long_line : List ℕ → Bool
is_long_line line = is_numeral (unmarked line)

-- a natural number that 32 bits hold
abbrev pub is_memo_number : List ℕ → Bool
is_memo_number line = is_natural line && nat_lt (digits_value 10 line) (2 ^ 32)

-- ---- floats

-- the first byte is a digit
abbrev pub starts_with_digit : List ℕ → Bool
starts_with_digit [] = false
starts_with_digit (byte ∷ rest) = is_ascii_digit byte

-- the bytes from the first non-digit on
abbrev pub after_digits : List ℕ → List ℕ
after_digits [] = []
after_digits (byte ∷ rest) = if is_ascii_digit byte then after_digits rest else byte ∷ rest

-- one or more digits
abbrev pub is_digits : List ℕ → Bool
is_digits text = starts_with_digit text && list_all is_ascii_digit text

-- a plus or a minus, then digits
abbrev pub is_signed_digits : List ℕ → Bool
is_signed_digits [] = false
is_signed_digits (sign ∷ digits) = (sign == 43 || sign == 45) && is_digits digits

-- an e and signed digits, or nothing
abbrev pub is_exponent_or_end : List ℕ → Bool
is_exponent_or_end [] = true
is_exponent_or_end (byte ∷ rest) = (byte == 101) && is_signed_digits rest

-- what may follow the digits before the point: an optional fraction, then an optional exponent
abbrev pub is_after_whole : List ℕ → Bool
is_after_whole [] = true
is_after_whole (byte ∷ rest) =
    if byte == 46 then starts_with_digit rest && is_exponent_or_end (after_digits rest)
    else is_exponent_or_end (byte ∷ rest)

-- digits, then what may follow them
abbrev pub is_decimal : List ℕ → Bool
is_decimal text = starts_with_digit text && is_after_whole (after_digits text)

-- exactly these three bytes
abbrev pub is_word : (a b c : ℕ) → List ℕ → Bool
is_word a b c (x ∷ y ∷ z ∷ []) = (x == a) && ((y == b) && (z == c))
is_word a b c _ = false

-- inf, nan or a decimal
abbrev pub is_unsigned : List ℕ → Bool
is_unsigned text = (is_word 105 110 102 text || is_word 110 97 110 text) || is_decimal text

-- an optional minus, then an unsigned float
abbrev pub is_float_line : List ℕ → Bool
is_float_line [] = false
is_float_line (byte ∷ rest) = if byte == 45 then is_unsigned rest else is_unsigned (byte ∷ rest)

-- ---- strings in quotes

-- the bytes are a sequence of items
abbrev pub are_items : (quote : ℕ) → List ℕ → Bool
are_items quote inside = is_some (items_of quote inside)

-- a single or a double quote
abbrev pub is_quote : ℕ → Bool
is_quote byte = byte == 39 || byte == 34

-- at least two bytes, the first and the last the same quote, with items between them
abbrev pub is_string_line : List ℕ → Bool
is_string_line line =
    nat_le 2 (length line)
    && (is_quote (slice_index line 0)
    && ((slice_index line (length line - 1) == slice_index line 0)
    && are_items (slice_index line 0) (take (length line - 2) (drop 1 line))))

-- ---- all rules

-- ASCII and not empty
abbrev pub is_name : List ℕ → Bool
is_name line = nat_lt 0 (length line) && list_all is_ascii line

-- the argument passes the test of the rule
abbrev pub passes : Rule → Argument → Bool
passes rule.Anything _ = true
passes rule.Int (Line line) = is_int_line line
passes rule.Long (Line line) = is_long_line line
passes rule.MemoNumber (Line line) = is_memo_number line
passes rule.Float (Line line) = is_float_line line
passes rule.OldString (Line line) = is_string_line line
passes rule.Escapes (Line line) = is_some (points_of line)
passes rule.Utf8 (Counted payload) = is_utf8 payload
passes rule.Names (Pair first second) = is_name first && is_name second
passes rule.Ascii (Line line) = list_all is_ascii line
passes _ _ = false
