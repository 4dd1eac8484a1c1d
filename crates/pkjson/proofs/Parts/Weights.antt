-- What the weights of parts say of the whole.
use Rattle.std.proofs.Common.{◌≡◌, ℕ, suc, zero, ◌+◌, ◌<◌, ◌≤◌, List, [], ◌∷◌, ◌++◌, length, refl}
use Rattle.std.proofs.Common.{arith, take, drop, Some}
use Rattle.std.specs.Prelude.{max, min, get_or}
use Rattle.std.proofs.lemmas.Option.{slice_get-get_or}
use Rattle.serde_json.specs.Data.{Data, array, object, depth, Items, no_items, item, items_depth}
use Rattle.serde_json.specs.Data.{Members, no_members, member, members_depth}
use Rattle.std.proofs.lemmas.List.{take_more}
use Rattle.pkjson.specs.Private.Nodes.{named_members}
use Rattle.pkjson.proofs.Parts.NodesHeld.{Holds, Member, named_more, named_seam, seam}
use Rattle.pkjson.specs.declared.judge.Weight.{Weight}
use Rattle.pkjson.specs.Unfolds.{Scalar, Sequence, Pairs, Heap, Unfolds, UnfoldItems, UnfoldMembers}
use Rattle.pkjson.specs.Unfolds.{count, items_count, members_count}
use Rattle.pkjson.specs.Private.Weighs.{Weighs, IsDeeper, ItemsWeigh, AreDeeper, MembersWeigh}
use Rattle.pkjson.specs.Private.Weighs.{MembersDeeper, IsTrusted, no_weight}
use Rattle.pkjson.proofs.Values.OneValue.{as_sequence, as_pairs, unique}

unfoldable pub snoc : Items → Data → Items
snoc no_items v = item v no_items
snoc (item w vs) v = item w (snoc vs v)

unfoldable pub snoc_member : Members → List ℕ → Data → Members
snoc_member no_members k v = member k v no_members
snoc_member (member l w vs) k v = member l w (snoc_member vs k v)

module _ (h : Heap) where
  pub unfold_snoc : (xs : List ℕ) (x : ℕ) (vs : Items) (v : Data) → UnfoldItems h xs vs
      → Unfolds h x v → UnfoldItems h (xs ++ x ∷ []) (snoc vs v)
  unfolding snoc
  unfold_snoc [] x no_items v u w = (w, tt)
  unfold_snoc (y ∷ xs) x (item z vs) v u w = (u.0, unfold_snoc xs x vs v u.1 w)
  unfold_snoc xs x vs v u w = absurd u

  pub member_snoc : (ps : List (List ℕ × ℕ)) (k : List ℕ) (x : ℕ) (vs : Members) (v : Data)
      → UnfoldMembers h ps vs → Unfolds h x v → UnfoldMembers h (ps ++ (k, x) ∷ [])
      (snoc_member vs k v)
  unfolding snoc_member
  member_snoc [] k x no_members v u w = (refl, w, tt)
  member_snoc (p ∷ ps) k x (member l z vs) v u w = (u.0, u.1, member_snoc ps k x vs v u.2 w)
  member_snoc ps k x vs v u w = absurd u

  -- the first of the rest is as deep as all at most
  pub at_seam : (xs : List ℕ) (x : ℕ) (ys : List ℕ) (vs : Items) → UnfoldItems h (xs ++ x ∷ ys) vs
      → (v : Data) × Unfolds h x v × (depth v ≤ items_depth vs)
  at_seam [] x ys (item v vs) u = (v, u.0, omega arith)
  at_seam (y ∷ xs) x ys (item v vs) u = let i = at_seam xs x ys vs u.1 in
      (i.0, i.1, omega (arith, i.2))
  at_seam xs x ys vs u = absurd u

  pub member_seam : (xs : List (List ℕ × ℕ)) (p : List ℕ × ℕ) (ys : List (List ℕ × ℕ))
      (vs : Members) → UnfoldMembers h (xs ++ p ∷ ys) vs → (v : Data) × Unfolds h p.1 v
      × (depth v ≤ members_depth vs)
  member_seam [] p ys (member k v vs) u = (v, u.1, omega arith)
  member_seam (y ∷ xs) p ys (member k v vs) u = let i = member_seam xs p ys vs u.2 in
      (i.0, i.1, omega (arith, i.2))
  member_seam xs p ys vs u = absurd u

depth_snoc : (vs : Items) (v : Data) → items_depth (snoc vs v) ≡ max (items_depth vs) (depth v)
unfolding snoc
depth_snoc no_items v = omega arith
depth_snoc (item w vs) v = omega (arith, depth_snoc vs v)

count_snoc : (vs : Items) (v : Data) → items_count (snoc vs v) ≡ items_count vs + count v
unfolding snoc
count_snoc no_items v = omega arith
count_snoc (item w vs) v = omega (arith, count_snoc vs v)

member_depth_snoc : (vs : Members) (k : List ℕ) (v : Data)
    → members_depth (snoc_member vs k v) ≡ max (members_depth vs) (depth v)
unfolding snoc_member
member_depth_snoc no_members k v = omega arith
member_depth_snoc (member l w vs) k v = omega (arith, member_depth_snoc vs k v)

member_count_snoc : (vs : Members) (k : List ℕ) (v : Data)
    → members_count (snoc_member vs k v) ≡ members_count vs + count v
unfolding snoc_member
member_count_snoc no_members k v = omega arith
member_count_snoc (member l w vs) k v = omega (arith, member_count_snoc vs k v)

module _ (h : Heap) (cap : ℕ) where
  pub no_items_weigh : (w : Weight) → w.depth ≡ 0 → w.count ≡ 0 → ItemsWeigh h cap [] w
  unfolding ItemsWeigh
  no_items_weigh w d c = (no_items, tt, d, omega (arith, c))

  -- one more of them
  pub item_weighed : (xs : List ℕ) (n : ℕ) (a b sum : Weight) → n < length xs
      → sum.depth ≡ max a.depth b.depth → sum.count ≡ min cap (a.count + b.count)
      → ItemsWeigh h cap (take n xs) a → Weighs h cap (get_or xs n 0) b
      → ItemsWeigh h cap (take (n + 1) xs) sum
  unfolding ItemsWeigh Weighs
  item_weighed xs n a b sum l d c i w = rw (take_more xs n 0 l) (
    snoc i.0 w.0,
    unfold_snoc h (take n xs) (get_or xs n 0) i.0 w.0 i.1 w.1,
    omega (arith, depth_snoc i.0 w.0, i.2, w.2, d),
    omega (arith, count_snoc i.0 w.0, i.3, w.3, c),
  )

  pub no_members_weigh : (w : Weight) → w.depth ≡ 0 → w.count ≡ 0 → MembersWeigh h cap [] w
  unfolding MembersWeigh
  no_members_weigh w d c = (no_members, tt, d, omega (arith, c))

  pub member_weighed : (ps : List Member) (n : ℕ) (d : Member) (a b sum : Weight) → n < length ps
      → sum.depth ≡ max a.depth b.depth → sum.count ≡ min cap (a.count + b.count)
      → MembersWeigh h cap (named_members (take n ps)) a → Weighs h cap (get_or ps n d).1 b
      → MembersWeigh h cap (named_members (take (n + 1) ps)) sum
  unfolding MembersWeigh Weighs
  member_weighed ps n d a b sum l e c i w =
      let key = (get_or ps n d).0.now in
      rw (named_more ps n d l) (
        snoc_member i.0 key w.0,
        member_snoc h (named_members (take n ps)) key (get_or ps n d).1 i.0 w.0 i.1 w.1,
        omega (arith, member_depth_snoc i.0 key w.0, i.2, w.2, e),
        omega (arith, member_count_snoc i.0 key w.0, i.3, w.3, c),
      )

  -- an object by what it holds
  module _ {x : ℕ} where
    pub scalar_weighs : {s : Data} (w : Weight) → 0 < cap → Holds h x (Scalar s) → Unfolds h x s
        → depth s ≡ 0 → count s ≡ 1 → w.depth ≡ 0 → w.count ≡ 1 → Weighs h cap x w
    unfolding Weighs
    scalar_weighs {s} w some e u d c f g = (s, u, omega (arith, d, f), omega (arith, c, g))

    pub sequence_weighs : {xs : List ℕ} (a w : Weight) → Holds h x (Sequence xs)
        → ItemsWeigh h cap xs a → w.depth ≡ a.depth + 1 → w.count ≡ min cap (a.count + 1)
        → Weighs h cap x w
    unfolding Weighs ItemsWeigh
    sequence_weighs {xs} a w e i f g =
        (array i.0, (xs, e.is, i.1), omega (arith, i.2, f), omega (arith, i.3, g))

    pub pairs_weigh : {ps : List (List ℕ × ℕ)} (a w : Weight) → Holds h x (Pairs ps)
        → MembersWeigh h cap ps a → w.depth ≡ a.depth + 1 → w.count ≡ min cap (a.count + 1)
        → Weighs h cap x w
    unfolding Weighs MembersWeigh
    pairs_weigh {ps} a w e i f g =
        (object i.0, (ps, e.is, i.1), omega (arith, i.2, f), omega (arith, i.3, g))

  -- by the table
  pub weighs_more : (x fuel : ℕ) (w : Weight) → Weighs h cap x w → fuel < w.depth
      → IsDeeper h fuel x
  unfolding Weighs IsDeeper
  weighs_more x fuel w i d v u = let e = unique h x i.0 v i.1 u in rw e (omega (arith, i.2, d))

  pub weighs_at_most : (x : ℕ) (w : Weight) → Weighs h cap x w → w.count ≤ cap
  unfolding Weighs
  weighs_at_most x w i = omega (arith, i.3)

  pub by_table : (done : List Weight) (x : ℕ) → IsTrusted h cap done → x < length done
      → 0 < (get_or done x no_weight).count → Weighs h cap x (get_or done x no_weight)
  unfolding IsTrusted
  by_table done x t l some = t x (get_or done x no_weight)
      (slice_get-get_or done x no_weight l) some

-- too deep, as one of them is
module _ (h : Heap) (fuel : ℕ) where
  pub items_deeper : (xs : List ℕ) (n : ℕ) → n < length xs → IsDeeper h fuel (get_or xs n 0)
      → AreDeeper h fuel xs
  unfolding IsDeeper AreDeeper
  items_deeper xs n l d vs u =
      let i = at_seam h (take n xs) (get_or xs n 0) (drop (suc n) xs) vs
      (rw (seam xs n 0 l) u) in
      omega (arith, i.2, d i.0 i.1)

  pub members_deeper : (ps : List Member) (n : ℕ) (d : Member) → n < length ps
      → IsDeeper h fuel (get_or ps n d).1 → MembersDeeper h fuel (named_members ps)
  unfolding IsDeeper MembersDeeper
  members_deeper ps n d l e vs u =
      let p : List ℕ × ℕ = ((get_or ps n d).0.now, (get_or ps n d).1) in
      let i = member_seam h (named_members (take n ps)) p (named_members (drop (suc n) ps)) vs
      (rw (named_seam ps n d l) u) in
      omega (arith, i.2, e i.0 i.1)

-- too deep, by what it holds
module _ {h : Heap} {x : ℕ} (fuel : ℕ) where
  pub sequence_deeper : {xs : List ℕ} (less : ℕ) → fuel ≡ less + 1 → Holds h x (Sequence xs)
      → AreDeeper h less xs → IsDeeper h fuel x
  unfolding IsDeeper AreDeeper
  sequence_deeper {xs} less f e d v u = let i = as_sequence h x xs v e.is u in let q = d i.0 i.2 in
      rw i.1 (omega (arith, q, f))

  pub pairs_deeper : {ps : List (List ℕ × ℕ)} (less : ℕ) → fuel ≡ less + 1 → Holds h x (Pairs ps)
      → MembersDeeper h less ps → IsDeeper h fuel x
  unfolding IsDeeper MembersDeeper
  pairs_deeper {ps} less f e d v u = let i = as_pairs h x ps v e.is u in let q = d i.0 i.2 in
      rw i.1 (omega (arith, q, f))

  pub sequence_not_flat : {xs : List ℕ} → fuel ≡ 0 → Holds h x (Sequence xs) → IsDeeper h fuel x
  unfolding IsDeeper
  sequence_not_flat {xs} f e v u = let i = as_sequence h x xs v e.is u in rw i.1 (omega (arith, f))

  pub pairs_not_flat : {ps : List (List ℕ × ℕ)} → fuel ≡ 0 → Holds h x (Pairs ps)
      → IsDeeper h fuel x
  unfolding IsDeeper
  pairs_not_flat {ps} f e v u = let i = as_pairs h x ps v e.is u in rw i.1 (omega (arith, f))

-- what holds itself alone
pub self_deeper : (h : Heap) (x : ℕ) (n : ℕ) → h x ≡ Some (Sequence (x ∷ [])) → IsDeeper h n x
self_deeper h x zero e = sequence_not_flat 0 refl (record { is = e })
self_deeper h x (suc n) e = sequence_deeper (suc n) n (omega arith) (record { is = e })
    (items_deeper h n (x ∷ []) 0 (omega arith) (self_deeper h x n e))
