-- What names an import: the objects of an operation, or the texts of its argument.
use Rattle.std.specs.Prelude.{◌≡◌, ℕ, List, [], ◌∷◌, Option, ⊤}
use Rattle.std.specs.Borrow.{Bor}
use Rattle.std.specs.Option.{option_map}
use Rattle.pkops.specs.Operands.{pair_named}
use Rattle.pkops.specs.Spelling.{Instruction}
use Rattle.pkmachine.specs.declared.held.Held.{Held}
use Rattle.pkmachine.specs.Private.Slots.{IsNumbered}

-- these objects refer only to the first `count` texts
abbrev pub AreNumbered : {I : Type 0} → ℕ → List (Held I) → Type 0
AreNumbered count [] = ⊤
AreNumbered count (v ∷ vs) = IsNumbered count v × AreNumbered count vs

-- the two texts are those that the instruction names, and there are none if it names none
abbrev pub Spells : Option (Bor (List ℕ) × Bor (List ℕ)) → Instruction → Type 0
Spells names i = option_map (λ pair. (pair.0.now, pair.1.now)) names ≡ pair_named i
