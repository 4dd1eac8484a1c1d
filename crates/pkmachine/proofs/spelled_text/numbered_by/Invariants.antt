-- The string is the UTF-8 of the characters numbered by the bytes passed.
use Rattle.std.proofs.Common.{◌≡◌, take}
use Rattle.std.specs.Prelude.{encode_utf8_all, string_bytes}
use Rattle.pkmachine.proofs.spelled_text.numbered_by.Given as goal

-- the text so far has the characters of the bytes so far
abbrev pub invariant-bytes : goal.invariant-bytes
invariant-bytes l = string_bytes l.text ≡ encode_utf8_all (take l.byte-index l.bytes)
