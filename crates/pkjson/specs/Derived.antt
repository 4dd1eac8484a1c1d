-- What an object unfolds to, as derivations.
use Rattle.std.specs.Prelude.{◌≡◌, ℕ, suc, ◌+◌, max, List, [], ◌∷◌, Some}
use Rattle.serde_json.specs.Data.{Data, array, object, Items, no_items, item, Members, no_members}
use Rattle.serde_json.specs.Data.{member}
use Rattle.pkjson.specs.Unfolds.{Scalar, Sequence, Pairs, Heap}

abbrev pub IsFlat : Data → Type 0
IsFlat (array vs) = ⊥
IsFlat (object ms) = ⊥
IsFlat v = Unit {0}

-- an object, its value, the depth of the value and the number of values in it
mutual
  pub data Derives (h : Heap) : ℕ → Data → ℕ → ℕ → Type 0 where
    scalar : (x : ℕ) (v : Data) → h x ≡ Some (Scalar v) → IsFlat v → Derives h x v 0 1
    sequence : (x : ℕ) (xs : List ℕ) (vs : Items) (d c : ℕ)
        → h x ≡ Some (Sequence xs) → DeriveItems h xs vs d c
        → Derives h x (array vs) (suc d) (suc c)
    pairs : (x : ℕ) (ps : List (List ℕ × ℕ)) (ms : Members) (d c : ℕ)
        → h x ≡ Some (Pairs ps) → DeriveMembers h ps ms d c
        → Derives h x (object ms) (suc d) (suc c)

  pub data DeriveItems (h : Heap) : List ℕ → Items → ℕ → ℕ → Type 0 where
    nothing : DeriveItems h [] no_items 0 0
    further : (x : ℕ) (xs : List ℕ) (v : Data) (vs : Items) (d e c n : ℕ)
        → Derives h x v d c → DeriveItems h xs vs e n
        → DeriveItems h (x ∷ xs) (item v vs) (max d e) (c + n)

  pub data DeriveMembers (h : Heap) : List (List ℕ × ℕ) → Members → ℕ → ℕ → Type 0 where
    no_pair : DeriveMembers h [] no_members 0 0
    pair : (k : List ℕ) (x : ℕ) (ps : List (List ℕ × ℕ)) (v : Data) (ms : Members) (d e c n : ℕ)
        → Derives h x v d c → DeriveMembers h ps ms e n
        → DeriveMembers h ((k, x) ∷ ps) (member k v ms) (max d e) (c + n)
