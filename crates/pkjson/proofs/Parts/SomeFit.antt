-- Some of the parts fit where all of them do.
use Rattle.std.proofs.Common.{ℕ, ◌-◌, ◌≤◌, List, [], ◌∷◌, ◌++◌, take, drop, sym, subst, arith}
use Rattle.std.specs.Prelude.{slice_range}
use Rattle.std.proofs.lemmas.List.{take-append-drop}
use Rattle.serde_json.specs.Data.{Items, no_items, item, items_depth, Members, no_members, member}
use Rattle.serde_json.specs.Data.{members_depth}
use Rattle.pkjson.specs.Unfolds.{Heap, UnfoldItems, UnfoldMembers}
use Rattle.pkjson.specs.Private.Fits.{ItemsFit, MembersFit}
use Rattle.pkjson.specs.Private.Nodes.{named_members}
use Rattle.pkjson.proofs.Parts.NodesHeld.{Member}
use Rattle.pkjson.proofs.Parts.Pieces.{named_some}

module _ (h : Heap) where
  first_fit : (xs ys : List ℕ) (vs : Items) → UnfoldItems h (xs ++ ys) vs
      → (ws : Items) × UnfoldItems h xs ws × (items_depth ws ≤ items_depth vs)
  first_fit [] ys vs u = (no_items, tt, omega arith)
  first_fit (x ∷ xs) ys (item v vs) u = let i = first_fit xs ys vs u.1 in
      (item v i.0, (u.0, i.1), omega (arith, i.2))
  first_fit (x ∷ xs) ys no_items u = absurd u

  last_fit : (xs ys : List ℕ) (vs : Items) → UnfoldItems h (xs ++ ys) vs
      → (ws : Items) × UnfoldItems h ys ws × (items_depth ws ≤ items_depth vs)
  last_fit [] ys vs u = (vs, u, omega arith)
  last_fit (x ∷ xs) ys (item v vs) u = let i = last_fit xs ys vs u.1 in
      (i.0, i.1, omega (arith, i.2))
  last_fit (x ∷ xs) ys no_items u = absurd u

  first_members_fit : (xs ys : List (List ℕ × ℕ)) (vs : Members) → UnfoldMembers h (xs ++ ys) vs
      → (ws : Members) × UnfoldMembers h xs ws × (members_depth ws ≤ members_depth vs)
  first_members_fit [] ys vs u = (no_members, tt, omega arith)
  first_members_fit (x ∷ xs) ys (member k v vs) u = let i = first_members_fit xs ys vs u.2 in
      (member k v i.0, (u.0, u.1, i.1), omega (arith, i.2))
  first_members_fit (x ∷ xs) ys no_members u = absurd u

  last_members_fit : (xs ys : List (List ℕ × ℕ)) (vs : Members) → UnfoldMembers h (xs ++ ys) vs
      → (ws : Members) × UnfoldMembers h ys ws × (members_depth ws ≤ members_depth vs)
  last_members_fit [] ys vs u = (vs, u, omega arith)
  last_members_fit (x ∷ xs) ys (member k v vs) u = let i = last_members_fit xs ys vs u.2 in
      (i.0, i.1, omega (arith, i.2))
  last_members_fit (x ∷ xs) ys no_members u = absurd u

  pub some_fit : (levels : ℕ) (xs : List ℕ) (n m : ℕ) → ItemsFit h levels xs
      → ItemsFit h levels (slice_range xs n m)
  unfolding ItemsFit
  some_fit levels xs n m f =
      let i = last_fit (take n xs) (drop n xs) f.0
      (subst (λ ys. UnfoldItems h ys f.0) (sym (take-append-drop n xs)) f.1) in
      let j = first_fit (take (m - n) (drop n xs)) (drop (m - n) (drop n xs)) i.0
      (subst (λ ys. UnfoldItems h ys i.0) (sym (take-append-drop (m - n) (drop n xs))) i.1) in
      (j.0, j.1, omega (arith, f.2, i.2, j.2))

  some_pairs_fit : (levels : ℕ) (xs : List (List ℕ × ℕ)) (n m : ℕ) → MembersFit h levels xs
      → MembersFit h levels (slice_range xs n m)
  unfolding MembersFit
  some_pairs_fit levels xs n m f =
      let i = last_members_fit (take n xs) (drop n xs) f.0
      (subst (λ ys. UnfoldMembers h ys f.0) (sym (take-append-drop n xs)) f.1) in
      let j = first_members_fit (take (m - n) (drop n xs)) (drop (m - n) (drop n xs)) i.0
      (subst (λ ys. UnfoldMembers h ys i.0) (sym (take-append-drop (m - n) (drop n xs))) i.1) in
      (j.0, j.1, omega (arith, f.2, i.2, j.2))

  pub some_members_fit : (levels : ℕ) (ps : List Member) (n m : ℕ)
      → MembersFit h levels (named_members ps)
      → MembersFit h levels (named_members (slice_range ps n m))
  some_members_fit levels ps n m f = subst (MembersFit h levels) (sym (named_some ps n m))
      (some_pairs_fit levels (named_members ps) n m f)
