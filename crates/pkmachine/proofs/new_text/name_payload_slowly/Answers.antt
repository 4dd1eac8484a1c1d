-- A payload decodes to a string, whose bytes may enter the table of texts as UTF-8.
use Rattle.std.proofs.lemmas.Str.{IsUtf8-string_bytes}
use Rattle.pkmachine.proofs.new_text.name_payload_slowly.Goals as goal

pub name_text-requires-clause-utf8 : goal.name_text-requires-clause-utf8
name_text-requires-clause-utf8 g c =
    rw c.as_bytes.ensures.value (IsUtf8-string_bytes c.in-Ok.text)
