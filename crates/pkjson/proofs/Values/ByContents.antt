-- What an object unfolds to goes by what each object holds.
use Rattle.std.proofs.Common.{◌≡◌, ℕ, List, [], ◌∷◌, sym, ◌∙◌}
use Rattle.serde_json.specs.Data.{Data, array, object, Items, no_items, item, Members, no_members}
use Rattle.serde_json.specs.Data.{member}
use Rattle.pkjson.specs.Unfolds.{Heap, Unfolds, UnfoldItems, UnfoldMembers}

module _ (h g : Heap) (e : (n : ℕ) → h n ≡ g n) where
  mutual
    pub unfolds_same : (x : ℕ) (v : Data) → Unfolds h x v → Unfolds g x v
    unfolds_same x (array vs) u = (u.0, sym (e x) ∙ u.1, items_same u.0 vs u.2)
    unfolds_same x (object ms) u = (u.0, sym (e x) ∙ u.1, members_same u.0 ms u.2)
    unfolds_same x v u = sym (e x) ∙ u

    items_same : (xs : List ℕ) (vs : Items) → UnfoldItems h xs vs → UnfoldItems g xs vs
    items_same [] no_items u = tt
    items_same (x ∷ xs) (item v vs) u = (unfolds_same x v u.0, items_same xs vs u.1)
    items_same xs vs u = absurd u

    members_same : (ps : List (List ℕ × ℕ)) (ms : Members) → UnfoldMembers h ps ms
        → UnfoldMembers g ps ms
    members_same [] no_members u = tt
    members_same (p ∷ ps) (member k v ms) u = (u.0, unfolds_same p.1 v u.1, members_same ps ms u.2)
    members_same ps ms u = absurd u
