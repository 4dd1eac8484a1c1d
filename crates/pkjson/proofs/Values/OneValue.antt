-- An object unfolds to one value.
use Rattle.std.proofs.Common.{◌≡◌, ℕ, List, [], ◌∷◌, Some, refl, sym, ap, ◌∙◌, subst}
use Rattle.serde_json.specs.Data.{Data, array, object, Items, no_items, item, Members, no_members}
use Rattle.serde_json.specs.Data.{member}
use Rattle.pkjson.specs.Unfolds.{Scalar, Sequence, Pairs, Heap, Unfolds, UnfoldItems, UnfoldMembers}

module _ (h : Heap) (x : ℕ) where
  pub as_scalar : (s w : Data) → h x ≡ Some (Scalar s) → Unfolds h x w → w ≡ s
  as_scalar s (array vs) e u = let q = sym e ∙ u.1 in cc
  as_scalar s (object ms) e u = let q = sym e ∙ u.1 in cc
  as_scalar s w e u = let q = sym e ∙ u in cc

  pub as_sequence : (xs : List ℕ) (w : Data) → h x ≡ Some (Sequence xs) → Unfolds h x w
      → (vs : Items) × (w ≡ array vs) × UnfoldItems h xs vs
  as_sequence xs (array vs) e u =
      let q = sym e ∙ u.1 in
      let same : u.0 ≡ xs = cc in
      (vs, refl, subst (λ l. UnfoldItems h l vs) same u.2)
  as_sequence xs (object ms) e u = let q = sym e ∙ u.1 in cc
  as_sequence xs w e u = let q = sym e ∙ u in cc

  pub as_pairs : (ps : List (List ℕ × ℕ)) (w : Data) → h x ≡ Some (Pairs ps) → Unfolds h x w
      → (ms : Members) × (w ≡ object ms) × UnfoldMembers h ps ms
  as_pairs ps (object ms) e u =
      let q = sym e ∙ u.1 in
      let same : u.0 ≡ ps = cc in
      (ms, refl, subst (λ l. UnfoldMembers h l ms) same u.2)
  as_pairs ps (array vs) e u = let q = sym e ∙ u.1 in cc
  as_pairs ps w e u = let q = sym e ∙ u in cc

module _ (h : Heap) where
  mutual
    pub unique : (x : ℕ) (v w : Data) → Unfolds h x v → Unfolds h x w → w ≡ v
    unique x (array vs) w u t = let i = as_sequence h x u.0 w u.1 t in
        i.1 ∙ ap array (unique_items u.0 vs i.0 u.2 i.2)
    unique x (object ms) w u t = let i = as_pairs h x u.0 w u.1 t in
        i.1 ∙ ap object (unique_members u.0 ms i.0 u.2 i.2)
    unique x v w u t = as_scalar h x _ w u t

    pub unique_items : (xs : List ℕ) (vs ws : Items) → UnfoldItems h xs vs → UnfoldItems h xs ws
        → ws ≡ vs
    unique_items [] no_items no_items u t = refl
    unique_items (x ∷ xs) (item v vs) (item w ws) u t = ap (λ d. item d ws) (unique x v w u.0 t.0)
        ∙ ap (item v) (unique_items xs vs ws u.1 t.1)
    unique_items [] (item v vs) ws u t = absurd u
    unique_items (x ∷ xs) no_items ws u t = absurd u
    unique_items xs vs ws u t = absurd t

    pub unique_members : (ps : List (List ℕ × ℕ)) (vs ws : Members) → UnfoldMembers h ps vs
        → UnfoldMembers h ps ws → ws ≡ vs
    unique_members [] no_members no_members u t = refl
    unique_members (p ∷ ps) (member k v vs) (member l w ws) u t = ap (λ i. member i w ws)
        (sym t.0 ∙ u.0) ∙ ap (λ d. member k d ws) (unique p.1 v w u.1 t.1)
        ∙ ap (member k v) (unique_members ps vs ws u.2 t.2)
    unique_members [] (member k v vs) ws u t = absurd u
    unique_members (p ∷ ps) no_members ws u t = absurd u
    unique_members ps vs ws u t = absurd t
