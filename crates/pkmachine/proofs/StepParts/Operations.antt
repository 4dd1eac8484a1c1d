-- The operations of the table, given the effects of their opcodes.
use Rattle.std.proofs.Common.{◌≡◌, ap, subst, sym}
use Rattle.pkmachine.specs.declared.effects.Operation.{Operation}
use Rattle.pkmachine.specs.Effects.{Effect, Operates, Names, NoName}
use Rattle.pkmachine.specs.Private.Actions.{IsOperation, IsUnnamed, effect_in}

abbrev names_in : Effect → Names
names_in (Operates takes names gives) = names
names_in e = NoName

-- the row of an operation that imports nothing names no import
pub unnamed_is : (e : Effect) (o : Operation) → IsUnnamed e → (IsOperation e → e ≡ effect_in o)
    → e ≡ Operates o.takes NoName o.gives
unnamed_is (Operates takes NoName g) o u h = subst
    (λ n. Operates takes NoName g ≡ Operates o.takes n o.gives) (sym (ap names_in (h u))) (h u)
unnamed_is _ o u h = absurd u
