-- The derivations are those of the relation on values.
use Rattle.std.proofs.Common.{◌≡◌, ℕ, suc, ◌+◌, List, [], ◌∷◌, refl, ap, subst, arith}
use Rattle.std.specs.Prelude.{max}
use Rattle.serde_json.specs.Data.{Data, null, boolean, number, string, array, object, depth, Items}
use Rattle.serde_json.specs.Data.{no_items, item, items_depth, Members, no_members, member}
use Rattle.serde_json.specs.Data.{members_depth}
use Rattle.pkjson.specs.Unfolds.{Heap, Unfolds, UnfoldItems, UnfoldMembers, count, items_count}
use Rattle.pkjson.specs.Unfolds.{members_count}
use Rattle.pkjson.specs.Derived.{Derives, DeriveItems, DeriveMembers, scalar, sequence, pairs}
use Rattle.pkjson.specs.Derived.{nothing, further, no_pair, pair}

module _ (h : Heap) where
  mutual
    pub derives : (x : ℕ) (v : Data) (d c : ℕ) → Derives h x v d c
        → Unfolds h x v × (d ≡ depth v) × (c ≡ count v)
    derives x (array vs) d c (scalar y w e f) = absurd f
    derives x (object ms) d c (scalar y w e f) = absurd f
    derives x v d c (sequence y xs vs e n q i) = let r = derive_items xs vs e n i in
        ((xs, q, r.0), ap suc r.1, ap suc r.2)
    derives x v d c (pairs y ps ms e n q i) = let r = derive_members ps ms e n i in
        ((ps, q, r.0), ap suc r.1, ap suc r.2)
    derives x v d c (scalar y w e f) = (e, refl, refl)

    pub derive_items : (xs : List ℕ) (vs : Items) (d c : ℕ) → DeriveItems h xs vs d c
        → UnfoldItems h xs vs × (d ≡ items_depth vs) × (c ≡ items_count vs)
    derive_items xs vs d c nothing = (tt, refl, refl)
    derive_items xs vs d c (further x ys v ws e f n m i j) = let r = derives x v e n i in let s =
        derive_items ys ws f m j in ((r.0, s.0), omega (arith, r.1, s.1), omega (arith, r.2, s.2))

    pub derive_members : (ps : List (List ℕ × ℕ)) (ms : Members) (d c : ℕ)
        → DeriveMembers h ps ms d c → UnfoldMembers h ps ms × (d ≡ members_depth ms)
        × (c ≡ members_count ms)
    derive_members ps ms d c no_pair = (tt, refl, refl)
    derive_members ps ms d c (pair k x qs v ws e f n m i j) = let r = derives x v e n i in
        let s = derive_members qs ws f m j in
        ((refl, r.0, s.0), omega (arith, r.1, s.1), omega (arith, r.2, s.2))

  mutual
    pub derived : (x : ℕ) (v : Data) → Unfolds h x v → Derives h x v (depth v) (count v)
    derived x null u = scalar x null u tt
    derived x (boolean b) u = scalar x (boolean b) u tt
    derived x (number b) u = scalar x (number b) u tt
    derived x (string b) u = scalar x (string b) u tt
    derived x (array vs) u = sequence x u.0 vs _ _ u.1 (derived_items u.0 vs u.2)
    derived x (object ms) u = pairs x u.0 ms _ _ u.1 (derived_members u.0 ms u.2)

    pub derived_items : (xs : List ℕ) (vs : Items) → UnfoldItems h xs vs
        → DeriveItems h xs vs (items_depth vs) (items_count vs)
    derived_items [] no_items u = nothing
    derived_items (x ∷ xs) (item v vs) u = further x xs v vs _ _ _ _ (derived x v u.0)
        (derived_items xs vs u.1)
    derived_items xs vs u = absurd u

    pub derived_members : (ps : List (List ℕ × ℕ)) (ms : Members) → UnfoldMembers h ps ms
        → DeriveMembers h ps ms (members_depth ms) (members_count ms)
    derived_members [] no_members u = no_pair
    derived_members (p ∷ ps) (member k v ms) u = subst
        (λ l. DeriveMembers h (p ∷ ps) (member l v ms) (max (depth v) (members_depth ms))
        (count v + members_count ms)) u.0
        (pair p.0 p.1 ps v ms _ _ _ _ (derived p.1 v u.1) (derived_members ps ms u.2))
    derived_members ps ms u = absurd u
