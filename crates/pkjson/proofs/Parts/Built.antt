-- What can be built of the parts.
use Rattle.std.proofs.Common.{◌≡◌, ℕ, suc, ◌+◌, ◌-◌, ◌<◌, ◌≤◌, List, [], ◌∷◌, ◌++◌, length, take}
use Rattle.std.proofs.Common.{drop, get_or, refl, sym, ap, subst, arith, rules, Bool, String}
use Rattle.std.proofs.Common.{Global, string_bytes}
use Rattle.std.specs.Ordering.{nat_cmp}
use Rattle.std.specs.Cmp.Lexicographic.{slice_cmp}
use Rattle.std.specs.declared.cmp.Ordering.TheVariants.{Greater}
use Rattle.serde_json.specs.Data.{Data, null, boolean, string, depth, item, items_depth, Members}
use Rattle.serde_json.specs.Data.{no_members, member, members_depth, put}
use Rattle.serde_json.specs.View.{view, items_view}
use Rattle.serde_json.specs.declared.value.Value.{Value, the_lemmas}
use Rattle.serde_json.specs.declared.value.Value.TheVariants as value
use Rattle.pkjson.specs.Unfolds.{Sequence, Pairs, Heap, Unfolds, UnfoldItems, UnfoldMembers}
use Rattle.std.specs.Borrow.{Bor}
use Rattle.pkjson.specs.Private.Nodes.{named_members, AllAbove, Ascending}
use Rattle.pkjson.specs.Private.Fits.{Fits, ItemsFit, MembersFit}
use Rattle.pkjson.proofs.Values.OneValue.{as_sequence, as_pairs}
use Rattle.pkjson.proofs.Parts.Weights.{snoc, snoc_member, unfold_snoc, member_snoc, at_seam}
use Rattle.pkjson.proofs.Parts.Weights.{member_seam}
use Rattle.std.proofs.lemmas.List.{take_more}
use Rattle.pkjson.proofs.Parts.NodesHeld.{Holds, seam, named_seam, named_more}

module _ {h : Heap} {x : ℕ} (fuel : ℕ) where
  pub fits_some : {xs : List ℕ} → Holds h x (Sequence xs) → Fits h fuel x → 1 ≤ fuel
  unfolding Fits
  fits_some {xs} e f = let i = as_sequence h x xs f.0 e.is f.1 in
      let d : depth f.0 ≡ suc (items_depth i.0) = ap depth i.1 in omega (arith, d, f.2)

  pub fits_items : {xs : List ℕ} → Holds h x (Sequence xs) → Fits h fuel x
      → ItemsFit h (fuel - 1) xs
  unfolding Fits ItemsFit
  fits_items {xs} e f = let i = as_sequence h x xs f.0 e.is f.1 in
      let d : depth f.0 ≡ suc (items_depth i.0) = ap depth i.1 in (i.0, i.2, omega (arith, d, f.2))

  pub fits_any : {ps : List (List ℕ × ℕ)} → Holds h x (Pairs ps) → Fits h fuel x → 1 ≤ fuel
  unfolding Fits
  fits_any {ps} e f = let i = as_pairs h x ps f.0 e.is f.1 in
      let d : depth f.0 ≡ suc (members_depth i.0) = ap depth i.1 in omega (arith, d, f.2)

  pub fits_members : {ps : List (List ℕ × ℕ)} → Holds h x (Pairs ps) → Fits h fuel x
      → MembersFit h (fuel - 1) ps
  unfolding Fits MembersFit
  fits_members {ps} e f = let i = as_pairs h x ps f.0 e.is f.1 in
      let d : depth f.0 ≡ suc (members_depth i.0) = ap depth i.1 in
      (i.0, i.2, omega (arith, d, f.2))

module _ (h : Heap) (fuel : ℕ) where
  pub item_fits : (xs : List ℕ) (n : ℕ) → n < length xs → ItemsFit h fuel xs
      → Fits h fuel (get_or xs n 0)
  unfolding Fits ItemsFit
  item_fits xs n l f = let i = at_seam h (take n xs) (get_or xs n 0) (drop (suc n) xs) f.0
      (subst (λ l. UnfoldItems h l f.0) (sym (seam xs n 0 l)) f.1) in
      (i.0, i.1, omega (arith, i.2, f.2))

  pub member_fits : (ps : List (Bor (List ℕ) × ℕ)) (n : ℕ) (d : Bor (List ℕ) × ℕ) → n < length ps
      → MembersFit h fuel (named_members ps) → Fits h fuel (get_or ps n d).1
  unfolding Fits MembersFit
  member_fits ps n d l f = let i = member_seam h (named_members (take n ps)) _
      (named_members (drop (suc n) ps)) f.0
      (subst (λ l. UnfoldMembers h l f.0) (sym (named_seam ps n d l)) f.1) in
      (i.0, i.1, omega (arith, i.2, f.2))

pub view_null : view value.Null ≡ null
view_null = search (rules, the_lemmas)

pub view_bool : (b : Bool) → view (value.Bool b) ≡ boolean b
view_bool b = search (rules, the_lemmas)

pub view_string : (t : String Global) → view (value.String t) ≡ string (string_bytes t)
view_string t = search (rules, the_lemmas)

view_snoc : (vs : List Value) (v : Value) → items_view (vs ++ v ∷ [])
    ≡ snoc (items_view vs) (view v)
unfolding snoc
view_snoc [] v = refl
view_snoc (w ∷ vs) v = ap (item (view w)) (view_snoc vs v)

pub item_built : (h : Heap) (xs : List ℕ) (n : ℕ) (vs : List Value) (v : Value) → n < length xs
    → UnfoldItems h (take n xs) (items_view vs) → Unfolds h (get_or xs n 0) (view v)
    → UnfoldItems h (take (n + 1) xs) (items_view (vs ++ v ∷ []))
item_built h xs n vs v l u w = rw (take_more xs n 0 l, view_snoc vs v)
    (unfold_snoc h (take n xs) _ (items_view vs) (view v) u w)

above : (k : List ℕ) (xs : List (List ℕ × ℕ)) (p : List ℕ × ℕ) (ys : List (List ℕ × ℕ))
    → AllAbove k (xs ++ p ∷ ys) → slice_cmp nat_cmp p.0 k ≡ Greater
above k [] p ys a = a.0
above k (x ∷ xs) p ys a = above k xs p ys a.1

put_last : (h : Heap) (xs : List (List ℕ × ℕ)) (p : List ℕ × ℕ) (ys : List (List ℕ × ℕ))
    (ms : Members) (v : Data) → Ascending (xs ++ p ∷ ys) → UnfoldMembers h xs ms
    → put p.0 v ms ≡ snoc_member ms p.0 v
unfolding snoc_member
put_last h [] p ys no_members v a u = refl
put_last h (x ∷ xs) p ys (member k w ms) v a u =
    rw (← u.0, above x.0 xs p ys a.0) (ap (member x.0 w) (put_last h xs p ys ms v a.1 u.2))
put_last h xs p ys ms v a u = absurd u

pub member_built : (h : Heap) (ps : List (Bor (List ℕ) × ℕ)) (n : ℕ) (d : Bor (List ℕ) × ℕ)
    (ms : Members) (v : Data) → n < length ps → Ascending (named_members ps)
    → UnfoldMembers h (named_members (take n ps)) ms → Unfolds h (get_or ps n d).1 v
    → UnfoldMembers h (named_members (take (n + 1) ps)) (put (get_or ps n d).0.now v ms)
member_built h ps n d ms v l a u w =
    rw (
      named_more ps n d l,
      put_last h (named_members (take n ps)) _
          (named_members (drop (suc n) ps)) ms v (subst Ascending (sym (named_seam ps n d l)) a) u,
    )
    (member_snoc h (named_members (take n ps)) _ _ ms v u w)
