-- Texts that follow each other in one buffer.
use Rattle.std.specs.Prelude.{◌≡◌, ℕ, ◌+◌, ◌-◌, List, [], ◌∷◌, length, take, drop, ⊤}
use Rattle.std.specs.List.{concat}
use Rattle.std.specs.Str.{IsUtf8}

-- the ends of these texts, if the first one begins at `start`
abbrev pub ends_of : ℕ → List (List ℕ) → List ℕ
ends_of start [] = []
ends_of start (t ∷ ts) = (start + length t) ∷ ends_of (start + length t) ts

-- the texts with these ends, if the first one begins at `start`
abbrev pub cut : ℕ → List ℕ → List ℕ → List (List ℕ)
cut start [] bytes = []
cut start (end ∷ ends) bytes = take (end - start) bytes ∷ cut end ends (drop (end - start) bytes)

-- each of the texts is UTF-8
abbrev pub AreUtf8 : List (List ℕ) → Type 0
AreUtf8 [] = ⊤
AreUtf8 (t ∷ ts) = IsUtf8 t × AreUtf8 ts

-- the buffer consists of these texts, with these ends
pub record AreJoined (ts : List (List ℕ)) (ends bytes : List ℕ) : Type 0 where
  pub ends_are : ends ≡ ends_of 0 ts
  pub bytes_are : bytes ≡ concat ts
  pub utf8 : AreUtf8 ts
