-- The members that stand, as they are found, and what settled objects hold.
use Rattle.std.proofs.lemmas.Option.{same_Some}
use Rattle.std.proofs.lemmas.List.{length-map}
use Rattle.std.proofs.Common.{◌≡◌, ℕ, zero, suc, ◌+◌, ◌<◌, ◌≤◌, List, [], ◌∷◌, ◌++◌, length, drop}
use Rattle.std.proofs.Common.{get_or, refl, sym, ap, ◌∙◌, subst, arith, Option, Some, None}
use Rattle.std.proofs.Common.{Ordering, Less, Equal, Greater, drop-cons, length-drop, All}
use Rattle.std.specs.Prelude.{option_map, slice_get}
use Rattle.std.specs.Borrow.{Bor}
use Rattle.std.specs.Ordering.{nat_cmp, match_ordering, ordering_reverse}
use Rattle.std.specs.Cmp.Lexicographic.{slice_cmp}
use Rattle.std.specs.BTreeMap.{insert_entry}
use Rattle.std.specs.List.{AllByRecursion}
use Rattle.std.specs.List.Sorted.{IsStrictlySortedBy}
use Rattle.std.specs.Map.{keys_of}
use Rattle.std.proofs.lemmas.Cmp.{nat_list_cmp_total}
use Rattle.std.proofs.lemmas.List.Elements.{All-nil, All-cons, All-head, All-tail}
use Rattle.pkjson.specs.declared.node.Node.{Node}
use Rattle.pkjson.specs.Contents.{Kind, paired, characters, held_by}
use Rattle.pkjson.specs.Private.Arena.{Kept, kind_at, given_in, holds}
use Rattle.pkjson.specs.Private.Mirrors.{AreBelow, GivenBelow}
use Rattle.pkjson.specs.Private.Nodes.{named_members, content, heap_of, nodes_from, nodes_of, size}
use Rattle.pkjson.specs.Private.Nodes.{IsBelow, IsClosed, AllAbove, Ascending, IsOrdered}
use Rattle.pkjson.specs.Private.Nodes.{AreOrdered}
use Rattle.pkjson.specs.Private.Settled.{AreGivenBelow, Settles, AreSettled}
use Rattle.pkjson.specs.declared.objects.Object.{Object}
use Rattle.pkjson.specs.declared.settled.Settled.{Settled}
use Rattle.pkjson.specs.Private.Seen.{kept_of, kept_all}
use Rattle.pkjson.proofs.Parts.NodesHeld.{Dict, Member}

abbrev by_text : Bor (List ℕ) → Bor (List ℕ) → Ordering
by_text x y = slice_cmp nat_cmp x.now y.now

pub matched : {A B : Type 0} (f : A → B) (o : Ordering) (a b c : A)
    → f (match_ordering o a b c) ≡ match_ordering o (f a) (f b) (f c)
matched f Less a b c = refl
matched f Equal a b c = refl
matched f Greater a b c = refl

pub insert_named : (es : List Member) (k : Bor (List ℕ)) (w : ℕ)
    → named_members (insert_entry by_text es k w) ≡ insert_entry (slice_cmp nat_cmp)
    (named_members es) k.now w
insert_named [] k w = refl
insert_named (e ∷ es) k w = matched named_members (by_text k e.0) _ _ _
    ∙ ap
    (λ l. match_ordering (by_text k e.0) ((k.now, w) ∷ named_members (e ∷ es))
    ((e.0.now, w) ∷ named_members es) ((e.0.now, e.1) ∷ l)) (insert_named es k w)

-- what holds of the new entry, under each key equal to its own, and of the others, holds of all
module _ {K X : Type 0} (cmp : K → K → Ordering) (P : K × X → Type 0) (k : K) (v : X)
    (new : P (k, v)) (same : (j : K) → cmp k j ≡ Equal → P (j, v)) where
  put_all : (o : Ordering) (e : K × X) (es fs : List (K × X)) → cmp k e.0 ≡ o → All P (e ∷ es)
      → All P fs → All P (match_ordering o ((k, v) ∷ e ∷ es) ((e.0, v) ∷ es) (e ∷ fs))
  put_all Less e es fs q h g = All-cons P (k, v) (e ∷ es) new h
  put_all Equal e es fs q h g = All-cons P (e.0, v) es (same e.0 q) (All-tail P e es h)
  put_all Greater e es fs q h g = All-cons P e fs (All-head P e es h) g

  pub insert_all : (es : List (K × X)) → All P es → All P (insert_entry cmp es k v)
  insert_all [] h = All-cons P (k, v) [] new h
  insert_all (e ∷ es) h = put_all (cmp k e.0) e es _ refl h (insert_all es (All-tail P e es h))

pub insert_below : (n : ℕ) (es : List Member) (k : Bor (List ℕ)) (w : ℕ) → w < n
    → All (λ p. p.1 < n) es → All (λ p. p.1 < n) (insert_entry by_text es k w)
insert_below n es k w l h = insert_all by_text (λ p. p.1 < n) k w l (λ j e. l) es h

module _ (kinds : ℕ → Option Kind) where
  pub two_more : (xs : List ℕ) (i : ℕ) → i + 1 < length xs
      → paired kinds (drop i xs) ≡ (characters (kinds (get_or xs i 0)), get_or xs (i + 1) 0)
      ∷ paired kinds (drop (i + 2) xs)
  two_more xs i h =
      let a : drop i xs ≡ get_or xs i 0 ∷ drop (suc i) xs = drop-cons xs i 0 (omega arith) in
      let b : drop (i + 1) xs ≡ get_or xs (i + 1) 0 ∷ drop (suc (i + 1)) xs =
      drop-cons xs (i + 1) 0 h in
      let e : suc i ≡ i + 1 = omega arith in
      let f : suc (i + 1) ≡ i + 2 = omega arith in
      rw (a, e, b, f) refl

  short : (ys : List ℕ) → length ys ≤ 1 → paired kinds ys ≡ []
  short (y ∷ z ∷ ys) h = absurd (omega arith)
  short ys h = refl

  pub none_left : (xs : List ℕ) (i : ℕ) → length xs ≤ i + 1 → paired kinds (drop i xs) ≡ []
  none_left xs i h = short (drop i xs) (omega (arith, h, length-drop i xs))

all_above : (k : Bor (List ℕ)) (es : List Member)
    → AllByRecursion (λ y. by_text k y ≡ Less) (keys_of es) → AllAbove k.now (named_members es)
all_above k [] h = tt
all_above k (e ∷ es) h =
    (nat_list_cmp_total.antisymm e.0.now k.now ∙ ap ordering_reverse h.0, all_above k es h.1)

pub ascending_found : (es : List Member) → IsStrictlySortedBy by_text (keys_of es)
    → Ascending (named_members es)
unfolding IsStrictlySortedBy
ascending_found [] h = tt
ascending_found (e ∷ es) h = (all_above e.0 es h.0, ascending_found es h.1)

pub settled_more : (all ks : List Kept) (ns : List Node) (k : Kept) (n : Node)
    → AreSettled all ks ns → Settles all k n → AreSettled all (ks ++ k ∷ []) (ns ++ n ∷ [])
settled_more all [] [] k n h s = (s, tt)
settled_more all (j ∷ ks) (m ∷ ns) k n h s = (h.0, settled_more all ks ns k n h.1 s)
settled_more all ks ns k n h s = absurd h

pub settled_length : (all ks : List Kept) (ns : List Node) → AreSettled all ks ns
    → length ns ≡ length ks
settled_length all [] [] h = refl
settled_length all (k ∷ ks) (n ∷ ns) h = ap suc (settled_length all ks ns h.1)
settled_length all ks ns h = absurd h

settled_content : (all ks : List Kept) (ns : List Node) → AreSettled all ks ns → (x : ℕ)
    → option_map content (slice_get ns x) ≡ option_map (λ k. held_by (kind_at all) k.given k.kind)
    (slice_get ks x)
settled_content all [] [] h x = refl
settled_content all (k ∷ ks) (n ∷ ns) h zero = ap Some h.0.content
settled_content all (k ∷ ks) (n ∷ ns) h (suc x) = settled_content all ks ns h.1 x
settled_content all ks ns h x = absurd h

held_option : (kinds : ℕ → Option Kind) (o : Option Kept)
    → option_map (λ k. held_by kinds k.given k.kind) o
    ≡ option_map (held_by kinds (given_in o)) (option_map (λ k. k.kind) o)
held_option kinds None = refl
held_option kinds (Some k) = refl

pub settled_heap : (all : List Kept) (ns : List Node) → AreSettled all all ns → (x : ℕ)
    → heap_of ns x ≡ holds all x
settled_heap all ns h x = settled_content all all ns h x
    ∙ held_option (kind_at all) (slice_get all x)

settled_node : (all ks : List Kept) (ns : List Node) → AreSettled all ks ns → (x : ℕ) (m : Node)
    → slice_get ns x ≡ Some m → IsBelow (length all) m × IsOrdered m
settled_node all [] [] h x m e = cc
settled_node all (k ∷ ks) (n ∷ ns) h zero m e =
    subst (λ z. IsBelow (length all) z × IsOrdered z) (same_Some n m e) (h.0.below, h.0.ordered)
settled_node all (k ∷ ks) (n ∷ ns) h (suc x) m e = settled_node all ks ns h.1 x m e
settled_node all ks ns h x m e = absurd h

pub kept_length : (os : List Object) → length (kept_all os) ≡ length os
kept_length os = length-map os kept_of

nodes_length : (ds : List Dict) (os : List Object) (ps : List ℕ)
    → length (nodes_from ds os ps) ≡ length os
nodes_length ds [] ps = refl
nodes_length ds (o ∷ os) [] = ap suc (nodes_length ds os [])
nodes_length ds (o ∷ os) (p ∷ ps) = ap suc (nodes_length ds os ps)

module _ (all : List Kept) (s : Settled) (h : AreSettled all all (nodes_of s)) where
  pub settled_size : size s ≡ length all
  settled_size = sym (nodes_length s.dicts.items s.objects.now s.places.items)
      ∙ settled_length all all (nodes_of s) h

  pub settled_closed : IsClosed s
  unfolding IsClosed
  settled_closed x m e = rw settled_size (settled_node all all (nodes_of s) h x m e).0

  pub settled_ordered : AreOrdered s
  unfolding AreOrdered
  settled_ordered x m e = (settled_node all all (nodes_of s) h x m e).1

pub all_below : (n : ℕ) (xs : List ℕ) → AreBelow n xs → All (λ x. x < n) xs
all_below n [] h = All-nil (λ x. x < n)
all_below n (x ∷ xs) h = All-cons (λ y. y < n) x xs h.0 (all_below n xs h.1)

pub all_given_below : (n : ℕ) (ks : List Kept) → GivenBelow n ks → AreGivenBelow n ks
all_given_below n [] h = All-nil (λ k. All (λ x. x < n) k.given)
all_given_below n (k ∷ ks) h = All-cons (λ j. All (λ x. x < n) j.given) k ks
    (all_below n k.given h.0) (all_given_below n ks h.1)

pub given_there : (n : ℕ) (os : List Object) (i : ℕ) (o : Object) → AreGivenBelow n (kept_all os)
    → i < length os → o ≡ get_or os i o → All (λ x. x < n) (kept_of o).given
given_there n [] i o h l e = absurd (omega arith)
given_there n (p ∷ os) zero o h l e = subst (λ z. All (λ x. x < n) (kept_of z).given) (sym e)
    (All-head (λ k. All (λ x. x < n) k.given) (kept_of p) (kept_all os) h)
given_there n (p ∷ os) (suc i) o h l e = given_there n os i o
    (All-tail (λ k. All (λ x. x < n) k.given) (kept_of p) (kept_all os) h) (omega (arith, l)) e
