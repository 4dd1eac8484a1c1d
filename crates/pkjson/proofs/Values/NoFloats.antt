-- What an object unfolds to has no float.
use Rattle.std.proofs.Common.{◌≡◌, ℕ, ℤ, pos, negsuc, Bool, true, false, cond, List, [], ◌∷◌}
use Rattle.std.proofs.Common.{Option, Some, None, refl, subst}
use Rattle.std.specs.Prelude.{option_map}
use Rattle.serde_json.specs.Data.{Data, boolean, number, array, object, Items, no_items, item}
use Rattle.serde_json.specs.Data.{Members, no_members, member}
use Rattle.serde_json.specs.Find.{of_integer}
use Rattle.serde_json.specs.Written.{has_float, items_have_float, members_have_float}
use Rattle.pkops.specs.Operands.{names_bool}
use Rattle.pkops.specs.Spelling.{Instruction}
use Rattle.pkmachine.specs.declared.effect.Class.TheVariants as class
use Rattle.pkmachine.specs.declared.effect.Gives.{Gives}
use Rattle.pkmachine.specs.declared.effect.Gives.TheVariants.{Makes, MakesIntOrBool, MakesText}
use Rattle.pkmachine.specs.declared.effect.Gives.TheVariants.{MayMake}
use Rattle.pkmachine.specs.Effects.{effect_of}
use Rattle.pkmachine.specs.Runs.{Event}
use Rattle.pkjson.specs.Contents.{Kind, OfItems, OfPairs, OfValue, all_given, contents, gives_of}
use Rattle.pkjson.specs.Contents.{held_by, kind_given, kind_by_effect, kinds, maker, says_true}
use Rattle.pkjson.specs.Integers.{integer_named}
use Rattle.pkjson.specs.Unfolds.{Scalar, Heap, Unfolds, UnfoldItems, UnfoldMembers}

pub integer_floatless : (z : ℤ) → has_float (number (of_integer z)) ≡ false
integer_floatless (pos n) = refl
integer_floatless (negsuc n) = refl

-- where no scalar of a heap has a float, no value has one
module _ (h : Heap) (scalars : (x : ℕ) (d : Data) → h x ≡ Some (Scalar d)
    → has_float d ≡ false) where
  mutual
    pub floatless_in : (x : ℕ) (v : Data) → Unfolds h x v → has_float v ≡ false
    floatless_in x (number n) u = scalars x (number n) u
    floatless_in x (array vs) u = items_floatless u.0 vs u.2
    floatless_in x (object ms) u = members_floatless u.0 ms u.2
    floatless_in x v u = refl

    pub items_floatless : (xs : List ℕ) (vs : Items) → UnfoldItems h xs vs
        → items_have_float vs ≡ false
    items_floatless [] no_items u = refl
    items_floatless (x ∷ xs) (item v vs) u = rw (floatless_in x v u.0) (items_floatless xs vs u.1)
    items_floatless xs vs u = absurd u

    pub members_floatless : (ps : List (List ℕ × ℕ)) (ms : Members) → UnfoldMembers h ps ms
        → members_have_float ms ≡ false
    members_floatless [] no_members u = refl
    members_floatless (p ∷ ps) (member k v ms) u =
        rw (floatless_in p.1 v u.1) (members_floatless ps ms u.2)
    members_floatless ps ms u = absurd u

-- a kind whose scalar is no float
abbrev IsFloatless : Kind → Type 0
IsFloatless (OfValue v) = has_float v ≡ false
IsFloatless OfItems = Unit {0}
IsFloatless OfPairs = Unit {0}

int_floatless : (b : Bool) (i : Instruction) → has_float
    (cond b (boolean (says_true i.arg)) (number (of_integer (integer_named i.arg)))) ≡ false
int_floatless true i = refl
int_floatless false i = integer_floatless (integer_named i.arg)

given_floatless : (g : Gives) (i : Instruction) → IsFloatless (kind_given g i)
given_floatless (Makes class.List) i = tt
given_floatless (Makes class.Tuple) i = tt
given_floatless (Makes class.Dict) i = tt
given_floatless (MayMake c) i = tt
given_floatless (Makes class.None) i = refl
given_floatless (Makes class.Bool) i = refl
given_floatless MakesText i = refl
given_floatless MakesIntOrBool i = int_floatless (names_bool i) i
given_floatless g i = integer_floatless (integer_named i.arg)

held_floatless : (of : ℕ → Option Kind) (xs : List ℕ) (k : Kind) (d : Data) → IsFloatless k
    → held_by of xs k ≡ Scalar d → has_float d ≡ false
held_floatless of xs (OfValue v) d h e = let is : v ≡ d = cc in
    subst (λ w. has_float w ≡ false) is h
held_floatless of xs k d h e = absurd cc

made_floatless : (o : Option Instruction) (of : ℕ → Option Kind) (xs : List ℕ) (d : Data)
    → option_map (held_by of xs) (option_map kind_by_effect o) ≡ Some (Scalar d)
    → has_float d ≡ false
made_floatless None of xs d e = absurd cc
made_floatless (Some i) of xs d e = held_floatless of xs (kind_by_effect i) d
    (given_floatless (gives_of (effect_of i.op)) i) cc

-- what an object of a run unfolds to at its end has no float
pub floatless : (es : List Event) (x : ℕ) (v : Data) → Unfolds (contents es) x v
    → has_float v ≡ false
floatless es = floatless_in (contents es)
    (λ n. made_floatless (maker n es) (kinds es) (all_given n es))
