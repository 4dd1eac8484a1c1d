-- The texts of keys in order, and the position of each object's text among them.
use Rattle.std.specs.Prelude.{◌≡◌, ℕ, ◌<◌, List, [], ◌∷◌, length, get_or, All, Option, Some, IfSome}
use Rattle.std.specs.Borrow.{Bor}
use Rattle.pkjson.specs.declared.ranks.Ranks.{Ranks}
use Rattle.pkjson.specs.Private.Arena.{Kept, kind_at}
use Rattle.pkjson.specs.Contents.{characters, paired, standing}
use Rattle.pkjson.specs.Private.Nodes.{named_members, Ascending}
use Rattle.pkjson.specs.Private.Seen.{kept_all}

-- the text at a position
abbrev pub text_in : List (Bor (List ℕ) × ℕ) → ℕ → List ℕ
text_in ts i = (get_or ts i (record { ref_ptr = (0, 0); now = [] }, 0)).0.now

-- the text is at this position
abbrev pub StandsIn : List (Bor (List ℕ) × ℕ) → List ℕ → ℕ → Type 0
StandsIn ts text place = (place < length ts) × (text_in ts place ≡ text)

-- for each of the first objects, the position of its text, where one is recorded
abbrev pub ArePlaces : List (Bor (List ℕ) × ℕ) → List Kept → List (Option ℕ) → Type 0
ArePlaces ts ks [] = Unit {0}
ArePlaces ts [] (p ∷ ps) = ⊥
ArePlaces ts (k ∷ ks) (p ∷ ps) =
    IfSome p (StandsIn ts (characters (Some k.kind))) × ArePlaces ts ks ps

-- the ranks match their objects
pub record AreRanks (ranks : Ranks) : Type 0 where
  pub ascending : Ascending (named_members ranks.texts.items)
  pub places : ArePlaces ranks.texts.items (kept_all ranks.objects.now) ranks.places.items

-- the members of a dict that was given these, among the first n objects
pub record AreMembers (ks : List Kept) (n : ℕ) (given : List ℕ)
    (ps : List (Bor (List ℕ) × ℕ)) : Type 0 where
  pub ascending : Ascending (named_members ps)
  pub below : All (λ p. p.1 < n) ps
  pub pairs : named_members ps ≡ standing [] (paired (kind_at ks) given)
