-- How the code reads a string in quotes, byte by byte; `proofs/ContentsRules/OldStrings.antt`
-- proves that it reads exactly what `OldStrings` says.
use Rattle.std.specs.Prelude.{ℕ, ◌+◌, ◌*◌, ◌<◌, ◌&&◌, ◌==◌, nat_le, if◌then◌else◌, Option, Some}
use Rattle.std.specs.Prelude.{None, ⊤}
use Rattle.std.specs.Char.{is_ascii_hexdigit, digit_value}
use Rattle.pkops.specs.declared.contents.old_string.Place.{Place}
use Rattle.pkops.specs.declared.contents.old_string.Place.TheVariants.{Outside, Behind, High, Low}
use Rattle.pkops.specs.OldBytes.{letter_byte}
use Rattle.pkops.specs.OldStrings.{is_escape_letter}

-- the next place after a byte, if the byte is allowed, and the byte that it completes
abbrev pub place_step : (quote : ℕ) → Place → ℕ → Option (Place × Option ℕ)
place_step quote Outside byte =
    if byte == 92 then Some (Behind, None)
    else (if byte == quote then None
    else (if nat_le 0x20 byte && nat_le byte 0x7e then Some (Outside, Some byte) else None))
place_step quote Behind byte =
    if byte == 120 then Some (High, None)
    else (if is_escape_letter byte then Some (Outside, Some (letter_byte byte)) else None)
place_step quote High byte =
    if is_ascii_hexdigit byte then Some (Low (digit_value byte), None) else None
place_step quote (Low value) byte =
    if is_ascii_hexdigit byte then Some (Outside, Some (value * 16 + digit_value byte)) else None

-- the value of a digit that was read is below 16
abbrev pub HoldsDigit : Place → Type 0
HoldsDigit (Low value) = value < 16
HoldsDigit _ = ⊤
