-- The number of open marks.
use Rattle.std.proofs.Common.{◌≡◌, suc, List, [], ◌∷◌, refl, ap}
use Rattle.pkstack.specs.Shape.{Entry, Mark, Item, marks_of}
use Rattle.pkmachine.specs.Covers.{Pointwise, AlikeEntry}

-- alike stacks have the same number of marks
pub marks_alike : {A B : Type 0} (R : A → B → Type 0) (es : List (Entry A)) (fs : List (Entry B))
    → Pointwise (AlikeEntry R) es fs → marks_of es ≡ marks_of fs
marks_alike R [] [] h = refl
marks_alike R (Mark ∷ es) (Mark ∷ fs) h = ap suc (marks_alike R es fs h.1)
marks_alike R (Item x ∷ es) (Item y ∷ fs) h = marks_alike R es fs h.1
marks_alike R _ _ h = absurd (assumption)
