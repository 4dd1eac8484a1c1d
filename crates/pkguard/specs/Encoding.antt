-- How pairs are encoded in the caller's buffer.
use Rattle.std.specs.Prelude.{◌++◌, ◌-◌, ◌^◌, ℕ, List, length, min, flat_map}
use Rattle.std.specs.Int.{to_le_bytes, w64}
use Rattle.pkimport.specs.Import.{Asked, AskedPair, AskedUnknown}

-- the greatest number that eight bytes hold
abbrev pub greatest_number : ℕ
greatest_number = 2 ^ 64 - 1

-- a number as eight little-endian bytes
abbrev pub eight_bytes : ℕ → List ℕ
eight_bytes number = to_le_bytes w64 number

-- a text, preceded by its length
abbrev pub encoded_text : List ℕ → List ℕ
encoded_text text = eight_bytes (length text) ++ text

-- an import: the text of its module, then that of its name. If the pair is unknown, both lengths
-- are the greatest number and there is no text
abbrev pub encoded : Asked → List ℕ
encoded (AskedPair module_name name) = encoded_text module_name ++ encoded_text name
encoded AskedUnknown = eight_bytes greatest_number ++ eight_bytes greatest_number

-- imports, in order
abbrev pub encoded_all : List Asked → List ℕ
encoded_all imports = flat_map encoded imports

-- the number of bytes that the imports need, at most the greatest number
abbrev pub wanted_by : List Asked → ℕ
wanted_by imports = min (length (encoded_all imports)) greatest_number
