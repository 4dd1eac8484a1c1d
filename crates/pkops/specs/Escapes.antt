-- Text with escapes, as protocol 0 spells it: the line of UNICODE, the argument `unicodestringnl`
-- of CPython's `pickletools`, in Python's codec raw-unicode-escape. The grammar has syntax trees, a
-- printer from a tree to its bytes, and a rule for valid trees; each tree is one character. It
-- refuses two things that the codec accepts: a backslash that begins no escape, and surrogates.
use Rattle.std.specs.Prelude.{◌≡◌, ◌≢◌, ℕ, ◌==◌, Bool, ◌&&◌, if◌then◌else◌, List, [], ◌∷◌, ◌++◌}
use Rattle.std.specs.Prelude.{length, take, map, codes, not, Option, Some, None}
use lib.Utf8.{scalar}
use Rattle.std.specs.List.{All, AllPass, list_all, flat_map}
use Rattle.std.specs.Option.{option_map}
use Rattle.std.specs.Char.{IsScalar, is_ascii, is_ascii_hexdigit}
use Rattle.std.specs.Str.Parse.{digits_value}
use Rattle.pkops.specs.Forms.{forms_of}

-- a character: a raw byte, or the digits of its code point after \u or \U
pub data Character : Type 0 where
  plain : (byte : ℕ) → Character
  short : (digits : List ℕ) → Character
  long : (digits : List ℕ) → Character

-- the bytes of a character
abbrev pub print_character : Character → List ℕ
print_character (plain byte) = byte ∷ []
print_character (short digits) = codes "\\u" ++ digits
print_character (long digits) = codes "\\U" ++ digits

-- the code point of a character; a raw byte is its own, as in Latin-1
abbrev pub code_point : Character → ℕ
code_point (plain byte) = byte
code_point (short digits) = digits_value 16 digits
code_point (long digits) = digits_value 16 digits

-- n hexadecimal digits of either case that spell a code point other than a surrogate
pub record IsEscape (n : ℕ) (digits : List ℕ) : Type 0 where
  pub count : length digits ≡ n
  pub hexadecimal : AllPass is_ascii_hexdigit digits
  pub scalar : IsScalar (digits_value 16 digits)

-- a plain character is any byte except a backslash; an escape has four or eight digits
abbrev pub IsCharacter : Character → Type 0
IsCharacter (plain byte) = byte ≢ 92
IsCharacter (short digits) = IsEscape 4 digits
IsCharacter (long digits) = IsEscape 8 digits

-- the line spells the text of these code points
abbrev pub SpellsText : (line points : List ℕ) → Type 0
SpellsText line points =
    (characters : List Character)
    × All IsCharacter characters
    × (line ≡ flat_map print_character characters) × (points ≡ map code_point characters)

-- the line of UNICODE: a line that spells some text
abbrev pub IsTextLine : List ℕ → Type 0
IsTextLine line = (points : List ℕ) × SpellsText line points

-- ---- the same from left to right

-- the digits are those of an escape
abbrev pub is_escape : ℕ → List ℕ → Bool
is_escape n digits =
    (length digits == n)
    && (list_all is_ascii_hexdigit digits && scalar (digits_value 16 digits))

-- the first n bytes of a text, if they are the digits of an escape
abbrev pub digits_at : ℕ → List ℕ → Option (List ℕ)
digits_at n text = if is_escape n (take n text) then Some (take n text) else None

-- what follows a backslash: u and four digits, or U and eight
abbrev pub escape_at : List ℕ → Option Character
escape_at [] = None
escape_at (letter ∷ text) =
    if letter == 117 then option_map short (digits_at 4 text)
    else (if letter == 85 then option_map long (digits_at 8 text) else None)

-- the character that begins with this byte: an escape after a backslash, otherwise the byte itself
abbrev pub character_at : ℕ → List ℕ → Option Character
character_at byte text = if byte == 92 then escape_at text else Some (plain byte)

-- the code points of the text that a line spells, if it spells one
abbrev pub points_of : List ℕ → Option (List ℕ)
points_of line = option_map (map code_point) (forms_of character_at print_character line)

-- ---- lines that need no decoding

-- an ASCII byte other than a backslash; a line of such bytes spells itself, as
-- `laws::plain_line_is_text` says
abbrev pub is_plain_ascii : ℕ → Bool
is_plain_ascii byte = is_ascii byte && not (byte == 92)
