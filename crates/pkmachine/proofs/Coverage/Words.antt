-- The empty word, and a word one letter longer.
use Rattle.std.proofs.Common.{◌<◌, [], ◌∷◌, arith}
use Rattle.std.specs.Str.{IsUtf8}
use Rattle.std.proofs.lemmas.List.Elements.{All-cons, All-nil}
use Rattle.std.proofs.lemmas.Str.{IsUtf8-append, IsUtf8-from_ascii, IsUtf8-nil}
use Rattle.std.proofs.lemmas.Str.Ascii.{IsAscii-from_all}
use Rattle.pkmachine.specs.Witnesses.{Word}

abbrev pub empty : Word
empty = record { text = []; utf8 = IsUtf8-nil }

pub letter : IsUtf8 (97 ∷ [])
letter = IsUtf8-from_ascii (97 ∷ [])
    (IsAscii-from_all (97 ∷ [])
    (All-cons (λ b. b < 128) 97 [] (omega arith) (All-nil (λ b. b < 128))))

abbrev pub longer : Word → Word
longer v = record { text = 97 ∷ v.text; utf8 = IsUtf8-append (97 ∷ []) v.text letter v.utf8 }
