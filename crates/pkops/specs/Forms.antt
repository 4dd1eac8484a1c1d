-- Parsing a text as a sequence of forms. A form is a syntax tree with a printer to its bytes; each
-- grammar says which form a text begins with.
use Rattle.std.specs.Prelude.{ℕ, ◌-◌, zero, suc, List, [], ◌∷◌, length, Option, Some}
use Rattle.std.specs.Option.{option_map, option_and_then}

-- the forms in the rest of a text, whose first `inside` bytes belong to the form before them
unfoldable pub forms_behind :
    {A : Type 0} → (first : ℕ → List ℕ → Option A) (print : A → List ℕ) (inside : ℕ) → List ℕ
    → Option (List A)
forms_behind first print inside [] = Some []
forms_behind first print (suc inside) (byte ∷ rest) = forms_behind first print inside rest
forms_behind first print zero (byte ∷ rest) =
    option_and_then
    (λ form. option_map
    (λ forms. form ∷ forms)
    (forms_behind first print (length (print form) - 1) rest))
    (first byte rest)

-- the forms of a text, if it is a sequence of forms
abbrev pub forms_of :
    {A : Type 0} → (first : ℕ → List ℕ → Option A) (print : A → List ℕ) → List ℕ
    → Option (List A)
forms_of first print text = forms_behind first print 0 text
