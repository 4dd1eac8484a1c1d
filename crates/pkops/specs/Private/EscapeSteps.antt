-- How the code reads text with escapes, byte by byte; `proofs/ContentsRules/EscapesRead.antt`
-- proves that it reads exactly what `Escapes` says.
use Rattle.std.specs.Prelude.{ℕ, ◌+◌, ◌-◌, ◌*◌, ◌<◌, Bool, ◌&&◌, ◌||◌, ◌==◌, nat_lt}
use Rattle.std.specs.Prelude.{if◌then◌else◌, Option, Some, None, ⊤}
use Rattle.std.specs.Char.{is_ascii_hexdigit, digit_value}
use Rattle.pkops.specs.declared.contents.escapes.State.{State}
use Rattle.pkops.specs.declared.contents.escapes.State.TheVariants.{Outside, Behind, Digits}

-- a code point that is not a surrogate
abbrev pub is_scalar : ℕ → Bool
is_scalar n = nat_lt n 0xd800 || (nat_lt 0xdfff n && nat_lt n 0x11_0000)

-- the next state after a digit that raises the value of an escape to this, of `left` digits to come
abbrev pub digit_step : (left value : ℕ) → Option (State × Option ℕ)
digit_step left value =
    if nat_lt left 2 then (if is_scalar value then Some (Outside, Some value) else None)
    else (if nat_lt value 0x11_0000 then Some (Digits (left - 1) value, None) else None)

-- the next state after a byte, if the byte is allowed, and the code point that it completes
abbrev pub escape_step : State → ℕ → Option (State × Option ℕ)
escape_step Outside byte = if byte == 92 then Some (Behind, None) else Some (Outside, Some byte)
escape_step Behind byte =
    if byte == 117 then Some (Digits 4 0, None)
    else (if byte == 85 then Some (Digits 8 0, None) else None)
escape_step (Digits left value) byte =
    if is_ascii_hexdigit byte then digit_step left (value * 16 + digit_value byte) else None

-- the value of an escape so far is below 0x110000
abbrev pub IsPointSoFar : State → Type 0
IsPointSoFar (Digits left value) = value < 0x11_0000
IsPointSoFar _ = ⊤
