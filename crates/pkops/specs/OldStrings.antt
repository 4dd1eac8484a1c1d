-- Strings in quotes, as protocol 0 spells Python 2 strings: the line of STRING, the argument
-- `stringnl` of CPython's `pickletools`. The grammar accepts every text that Python 2's `repr`
-- gives a string. It refuses the octal and other escapes that Python's `string_escape` codec also
-- accepts. The grammar has syntax trees, a printer from a tree to its bytes, and a rule for valid
-- trees.
use Rattle.std.specs.Prelude.{◌≡◌, ◌≢◌, ◌⊎◌, ℕ, ◌≤◌, nat_le, Bool, true, not, ◌&&◌, ◌==◌}
use Rattle.std.specs.Prelude.{if◌then◌else◌, List, [], ◌∷◌, ◌++◌, codes, Option, Some, None}
use Rattle.std.specs.List.{All, list_any, flat_map}
use Rattle.std.specs.Char.{is_ascii_hexdigit}
use Rattle.pkops.specs.Forms.{forms_of}

-- the byte that begins an escape
abbrev pub backslash : ℕ
backslash = 92

-- an item: a raw byte, a backslash and a letter, or a byte by two hexadecimal digits
pub data Item : Type 0 where
  plain : (byte : ℕ) → Item
  escape : (letter : ℕ) → Item
  hex : (high low : ℕ) → Item

-- the bytes of an item
abbrev pub print_item : Item → List ℕ
print_item (plain byte) = byte ∷ []
print_item (escape letter) = backslash ∷ letter ∷ []
print_item (hex high low) = codes "\\x" ++ high ∷ low ∷ []

-- what may follow a backslash: a backslash, a quote, or n, r or t for line feed, carriage return or
-- tab
abbrev pub is_escape_letter : ℕ → Bool
is_escape_letter byte = list_any (λ letter. letter == byte) (codes "\\'\"nrt")

-- a raw byte is printable ASCII other than a backslash and the enclosing quote
pub record IsPlain (quote byte : ℕ) : Type 0 where
  pub low : 0x20 ≤ byte
  pub high : byte ≤ 0x7e
  pub no_backslash : byte ≢ backslash
  pub no_quote : byte ≢ quote

-- an item of a string in these quotes
abbrev pub IsItem : (quote : ℕ) → Item → Type 0
IsItem quote (plain byte) = IsPlain quote byte
IsItem quote (escape letter) = is_escape_letter letter ≡ true
IsItem quote (hex high low) = (is_ascii_hexdigit high ≡ true) × (is_ascii_hexdigit low ≡ true)

-- a quote is ' or "
abbrev pub IsQuote : ℕ → Type 0
IsQuote quote = (quote ≡ 39) ⊎ (quote ≡ 34)

-- string = quote *item quote, with the same quote at both ends
abbrev pub IsStringLine : List ℕ → Type 0
IsStringLine line =
    (quote : ℕ) × (items : List Item)
    × IsQuote quote × All (IsItem quote) items
    × (line ≡ quote ∷ flat_map print_item items ++ quote ∷ [])

-- ---- the same from left to right

-- whether the byte may appear unescaped
abbrev pub is_plain : (quote byte : ℕ) → Bool
is_plain quote byte = nat_le 0x20 byte && (nat_le byte 0x7e && not (byte == quote))

-- what follows \x: two hexadecimal digits
abbrev pub hex_at : List ℕ → Option Item
hex_at (high ∷ low ∷ text) =
    if is_ascii_hexdigit high && is_ascii_hexdigit low then Some (hex high low) else None
hex_at _ = None

-- what follows a backslash
abbrev pub old_escape_at : List ℕ → Option Item
old_escape_at [] = None
old_escape_at (letter ∷ text) =
    if letter == 120 then hex_at text
    else (if is_escape_letter letter then Some (escape letter) else None)

-- the item that begins with this byte
abbrev pub item_at : (quote byte : ℕ) → List ℕ → Option Item
item_at quote byte text =
    if byte == backslash then old_escape_at text
    else (if is_plain quote byte then Some (plain byte) else None)

-- the items between two quotes, if the bytes are a sequence of items
abbrev pub items_of : (quote : ℕ) → List ℕ → Option (List Item)
items_of quote inside = forms_of (item_at quote) print_item inside
