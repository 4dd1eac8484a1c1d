-- What a node at a place says of the heap.
use Rattle.std.proofs.lemmas.List.{take_more, take-append-drop, map-append}
use Rattle.std.proofs.Common.{◌≡◌, ℕ, suc, ◌+◌, ◌<◌, List, [], ◌∷◌, ◌++◌, length, take, drop}
use Rattle.std.proofs.Common.{get_or, refl, sym, ap, ◌∙◌, subst, Some, inl, inr, get_or-set_same}
use Rattle.std.proofs.Common.{get_or-set_other, drop-cons, Vec, Global}
use Rattle.std.specs.Prelude.{Vec, option_map, slice_get, slice_index}
use Rattle.std.specs.Borrow.{Bor}
use Rattle.std.proofs.lemmas.Option.{slice_get_read, slice_get_within, get_or_from_slice_get}
use Rattle.std.proofs.lemmas.Option.{slice_get-get_or}
use Rattle.std.proofs.lemmas.Bool.{cases_eq}
use Rattle.std.proofs.Math.ListN.{set, length-set}
use Rattle.pkjson.specs.declared.node.Node.{Node}
use Rattle.pkjson.specs.declared.judge.Weight.{Weight}
use Rattle.pkjson.specs.declared.objects.Object.{Object}
use Rattle.pkjson.specs.declared.settled.Settled.{Settled}
use Rattle.pkjson.specs.Unfolds.{Content, Heap}
use Rattle.pkjson.specs.Private.Nodes.{content, heap, node_of, nodes_from, nodes_of, size, IsBelow}
use Rattle.pkjson.specs.Private.Nodes.{IsClosed, IsNode, IsOrdered, Shows, AreOrdered}
use Rattle.pkjson.specs.Private.Nodes.{named_members}
use Rattle.pkjson.specs.Private.Weighs.{Weighs, IsTrusted, no_weight}

abbrev pub Member : Type 0
Member = Bor (List ℕ) × ℕ

-- the members of a dict
abbrev pub Dict : Type 0
Dict = Vec Member Global

-- what an object holds
pub record Holds (h : Heap) (x : ℕ) (c : Content) : Type 0 where
  pub is : h x ≡ Some c

module _ {s : Settled} {x : ℕ} {n m : Node} (node : IsNode s x n) (same : n ≡ m) where
  pub held : Holds (heap s) x (content m)
  held = record { is = node.held ∙ ap (λ z. Some (content z)) same }

  pub below : IsClosed s → IsBelow (size s) m
  below closed = subst (IsBelow (size s)) same (node.below closed)

  pub ordered : AreOrdered s → IsOrdered m
  ordered each = subst IsOrdered same (node.ordered each)

nodes_get : (ds : List Dict) (os : List Object) (ps : List ℕ) (x : ℕ)
    → slice_get (nodes_from ds os ps) x ≡ option_map (node_of ds (slice_index ps x))
    (slice_get os x)
nodes_get ds (o ∷ os) [] (suc x) = nodes_get ds os [] x
nodes_get ds (o ∷ os) (p ∷ ps) (suc x) = nodes_get ds os ps x
nodes_get ds os ps x = refl

-- an object read where it lies
pub node_there : (s : Settled) (x : ℕ) (o : Object) (n : Node) → x < size s
    → o ≡ get_or s.objects.now x o
    → Shows (node_of s.dicts.items (slice_index s.places.items x) o) n → IsNode s x n
unfolding IsClosed AreOrdered
node_there s x o n l e w =
    let is : slice_get (nodes_of s) x
    ≡ Some (node_of s.dicts.items (slice_index s.places.items x) o) =
    nodes_get s.dicts.items s.objects.now s.places.items x
    ∙ ap (option_map (node_of s.dicts.items (slice_index s.places.items x)))
    (slice_get_read s.objects.now (length s.objects.now) x o refl l e) in
    record {
      held = ap (option_map content) is ∙ ap Some w.content;
      below = λ closed. w.below _ (closed x _ is);
      ordered = λ ordered. w.ordered (ordered x _ is);
    }

-- a list about a place
pub seam : {A : Type 0} (xs : List A) (i : ℕ) (d : A) → i < length xs
    → take i xs ++ get_or xs i d ∷ drop (suc i) xs ≡ xs
seam xs i d h = ap (λ l. take i xs ++ l) (sym (drop-cons xs i d h)) ∙ take-append-drop i xs

pub trusted_set : (h : Heap) (cap : ℕ) (done : List Weight) (x : ℕ) (w : Weight) → x < length done
    → IsTrusted h cap done → Weighs h cap x w → IsTrusted h cap (set done x w)
unfolding IsTrusted
trusted_set h cap done x w l t d y v e some = elim (cases_eq y x) [
  | inl q ↦ subst (λ z. Weighs h cap z v) (sym q) (subst (λ u. Weighs h cap x u)
      (sym (get_or-set_same done x w no_weight l)
      ∙ ap (λ z. get_or (set done x w) z no_weight) (sym q)
      ∙ get_or_from_slice_get (set done x w) y v no_weight e) d)
  | inr q ↦ t y v (slice_get-get_or done y no_weight
      (subst (λ n. y < n) (length-set done x w) (slice_get_within (set done x w) y v e)) ∙ ap Some
      (sym (get_or-set_other done x y w no_weight q)
      ∙ get_or_from_slice_get (set done x w) y v no_weight
      e)) some
]

-- what stands where there is none
abbrev pub no_member : Member
no_member = (record { ref_ptr = (0, 0); now = [] }, 0)

pub named_more : (ps : List Member) (i : ℕ) (d : Member) → i < length ps
    → named_members (take (i + 1) ps) ≡ named_members (take i ps)
    ++ ((get_or ps i d).0.now, (get_or ps i d).1) ∷ []
named_more ps i d h = rw (take_more ps i d h) (map-append _ (take i ps) _)

pub named_seam : (ps : List Member) (i : ℕ) (d : Member) → i < length ps
    → named_members (take i ps) ++ ((get_or ps i d).0.now, (get_or ps i d).1)
    ∷ named_members (drop (suc i) ps) ≡ named_members ps
named_seam ps i d h = sym (map-append _ (take i ps) _) ∙ ap named_members (seam ps i d h)
