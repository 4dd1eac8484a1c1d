-- How stack and memo hold what is known about an object in a number of four bytes.
use Rattle.std.specs.Prelude.{◌≡◌, ⊤, ℕ, zero, suc, ◌+◌, ◌-◌, List, [], ◌∷◌, get_or, length}
use Rattle.std.proofs.Common.{refl, arith}
use Rattle.pkmachine.specs.declared.effect.Class.TheVariants as class
use Rattle.pkmachine.specs.declared.value.Value.{Value}
use Rattle.pkmachine.specs.declared.value.Value.TheVariants as value

-- the values with the codes from 0 on
abbrev pub plain_values : List Value
plain_values =
    value.Unknown ∷ value.Made class.None ∷ value.Made class.Bool ∷ value.Made class.Int
    ∷ value.Made class.Float ∷ value.Made class.Bytes ∷ value.Made class.ByteArray
    ∷ value.Made class.List ∷ value.Made class.Tuple ∷ value.Made class.Dict
    ∷ value.Made class.Set ∷ value.Made class.FrozenSet ∷ []

-- the value with a code; the texts follow the others
abbrev pub unpacked : ℕ → Value
unpacked code = get_or plain_values code (value.Text (code - 12))

-- the code of a value
abbrev pub packed : Value → ℕ
packed value.Unknown = 0
packed (value.Made class.None) = 1
packed (value.Made class.Bool) = 2
packed (value.Made class.Int) = 3
packed (value.Made class.Float) = 4
packed (value.Made class.Bytes) = 5
packed (value.Made class.ByteArray) = 6
packed (value.Made class.List) = 7
packed (value.Made class.Tuple) = 8
packed (value.Made class.Dict) = 9
packed (value.Made class.Set) = 10
packed (value.Made class.FrozenSet) = 11
packed (value.Text number) = number + 12

-- the values have the codes from `first` on
abbrev AreCoded : ℕ → List Value → Type 0
AreCoded first [] = ⊤
AreCoded first (v ∷ vs) = (packed v ≡ first) × AreCoded (suc first) vs

coded : (first : ℕ) (vs : List Value) → AreCoded first vs → first + length vs ≡ 12 → (n : ℕ)
    (m : ℕ) → m ≡ first + n → packed (get_or vs n (value.Text (m - 12))) ≡ m
coded first [] h all n m is = omega (arith, all, is)
coded first (v ∷ vs) h all zero m is = omega (arith, h.0, is)
coded first (v ∷ vs) h all (suc n) m is =
    coded (suc first) vs h.1 (omega (arith, all)) n m (omega (arith, is))

-- unpacking forgets nothing
pub packed_unpacked : (code : ℕ) → packed (unpacked code) ≡ code
packed_unpacked code = coded 0 plain_values (
  refl,
  (
    refl,
    (refl, (refl, (refl, (refl, (refl, (refl, (refl, (refl, (refl, (refl, tt)))))))))),
  ),
)
    refl code code (omega arith)

-- the code of a mark, which no value has
abbrev pub mark : ℕ
mark = 4294967295
