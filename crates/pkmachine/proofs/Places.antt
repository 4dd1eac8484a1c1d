-- The entries below a place, and the marks behind a front.
use Rattle.std.proofs.Common.{◌≡◌, ℕ, ◌-◌, ◌≤◌, List, [], ◌∷◌, ◌++◌, length, refl, arith}
use Rattle.std.proofs.Common.{length-drop}
use Rattle.pkstack.specs.Places.{below}
use Rattle.pkstack.specs.Shape.{Entry, front, marks_of}

pub length_below : {A : Type 0} (n : ℕ) (es : List (Entry A)) → n ≤ length es
    → length (below n es) ≡ n
length_below n es h = let k = length-drop (length es - n) es in omega (arith, h, k)

pub front_marks : {A : Type 0} (vs : List A) (es : List (Entry A))
    → marks_of (front vs ++ es) ≡ marks_of es
front_marks [] es = refl
front_marks (v ∷ vs) es = refl
