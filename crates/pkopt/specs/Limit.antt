-- The memo write whose new number would be the limit.
use Rattle.std.specs.Prelude.{◌≡◌, ℕ, ◌+◌, true, List, [], ◌∷◌, ◌++◌, length}
use Rattle.pkops.specs.Spelling.{Instruction}
use Rattle.pkopt.specs.Writers.{sources, is_read, new_number, after, after_all}

-- after these instructions, p has a memo write that is read, and its new number would be the limit
abbrev pub IsPastLimit : ℕ → List Instruction → List Instruction → Type 0
IsPastLimit limit p before =
    (i : Instruction) × (rest : List Instruction) × (p ≡ before ++ i ∷ rest)
    × (length (after i (after_all before [])) ≡ length (after_all before []) + 1)
    × (is_read (length (after_all before [])) (sources [] p) ≡ true)
    × (new_number (sources [] p) (length (after_all before [])) ≡ limit)
