-- The members of each dict, as they are added.
use Rattle.std.proofs.Common.{◌≡◌, ◌∙◌, ℕ, zero, suc, ◌+◌, ◌<◌, ◌≤◌, get_or, take, take_all, List}
use Rattle.std.proofs.Common.{[], ◌∷◌, ◌++◌, length, refl, sym, ap, subst, arith, Some}
use Rattle.std.proofs.Common.{length-append, All}
use Rattle.std.specs.Prelude.{◌==◌, slice_get, false}
use Rattle.pkjson.specs.Private.Ranks.{AreMembers}
use Rattle.pkjson.specs.declared.objects.Object.{Object}
use Rattle.pkjson.specs.declared.objects.Object.TheVariants.{Items, Single, Pairs, Null}
use Rattle.pkjson.specs.declared.objects.Object.TheVariants.{Bool as Truth, Int, Lent, Decoded}
use Rattle.pkjson.specs.Unfolds.{Pairs as PairsOf}
use Rattle.pkjson.specs.Private.Arena.{Kept}
use Rattle.std.proofs.lemmas.List.Elements.{All-nil}
use Rattle.pkjson.specs.declared.node.Node.TheVariants.{Dict as DictNode}
use Rattle.pkjson.specs.Contents.{OfPairs}
use Rattle.pkjson.specs.Private.Nodes.{node_of, nodes_from, members_of, lent}
use Rattle.pkjson.specs.Private.Seen.{kept_of, kept_all}
use Rattle.pkjson.specs.Private.Settled.{Adds, AddsMembers, AreGivenBelow, AreSettled, Settles}
use Rattle.pkjson.proofs.DictKeys.SettledMembers.{given_there, kept_length, settled_more}
use Rattle.pkjson.proofs.Entries.{kept_append}
use Rattle.std.proofs.lemmas.List.{take_more}
use Rattle.pkjson.proofs.Parts.NodesHeld.{Dict}

-- the place of a dict that was given some is below n
abbrev pub IsGivenPlace : ℕ → List ℕ → ℕ → Type 0
IsGivenPlace n [] p = Unit {0}
IsGivenPlace n (x ∷ xs) p = p < n

-- if the object is a dict that was given some, its place is below n
abbrev pub IsPlaced : ℕ → Object → ℕ → Type 0
IsPlaced n (Pairs v) p = IsGivenPlace n v.items p
IsPlaced n o p = Unit {0}

-- each dict that was given some has a place below n
abbrev pub ArePlaced : ℕ → List Object → List ℕ → Type 0
ArePlaced n [] [] = Unit {0}
ArePlaced n (o ∷ os) (p ∷ ps) = IsPlaced n o p × ArePlaced n os ps
ArePlaced n os ps = ⊥

get_front : (ds es : List Dict) (p : ℕ) → p < length ds → slice_get (ds ++ es) p ≡ slice_get ds p
get_front [] es p l = absurd (omega (arith, l))
get_front (d ∷ ds) es zero l = refl
get_front (d ∷ ds) es (suc p) l = get_front ds es p (omega (arith, l))

get_last : (ds : List Dict) (d : Dict) → slice_get (ds ++ d ∷ []) (length ds) ≡ Some d
get_last [] d = refl
get_last (e ∷ ds) d = get_last ds d

members_same : (xs : List ℕ) (ds : List Dict) (d : Dict) (p : ℕ) → IsGivenPlace (length ds) xs p
    → members_of xs (ds ++ d ∷ []) p ≡ members_of xs ds p
members_same [] ds d p l = refl
members_same (x ∷ xs) ds d p l = rw (get_front ds (d ∷ []) p l) refl

node_same : (ds : List Dict) (d : Dict) (o : Object) (p : ℕ) → IsPlaced (length ds) o p
    → node_of (ds ++ d ∷ []) p o ≡ node_of ds p o
node_same ds d (Pairs v) p l = ap (λ z. DictNode (lent z)) (members_same v.items ds d p l)
node_same ds d o p l = refl

nodes_same : (ds : List Dict) (d : Dict) (os : List Object) (ps : List ℕ)
    → ArePlaced (length ds) os ps → nodes_from (ds ++ d ∷ []) os ps ≡ nodes_from ds os ps
nodes_same ds d [] ps h = refl
nodes_same ds d (o ∷ os) [] h = absurd h
nodes_same ds d (o ∷ os) (p ∷ ps) h = rw (node_same ds d o p h.0, nodes_same ds d os ps h.1) refl

nodes_more : (n : ℕ) (ds : List Dict) (os : List Object) (ps : List ℕ) (o : Object) (p : ℕ)
    → ArePlaced n os ps → nodes_from ds (os ++ o ∷ []) (ps ++ p ∷ []) ≡ nodes_from ds os ps
    ++ node_of ds p o ∷ []
nodes_more n ds [] [] o p h = refl
nodes_more n ds (q ∷ os) (r ∷ ps) o p h = ap (λ l. node_of ds r q ∷ l)
    (nodes_more n ds os ps o p h.1)
nodes_more n ds os ps o p h = absurd h

given_wider : (n m : ℕ) (xs : List ℕ) (p : ℕ) → n ≤ m → IsGivenPlace n xs p → IsGivenPlace m xs p
given_wider n m [] p l h = tt
given_wider n m (x ∷ xs) p l h = omega (arith, l, h)

placed_wider : (n m : ℕ) (o : Object) (p : ℕ) → n ≤ m → IsPlaced n o p → IsPlaced m o p
placed_wider n m (Pairs v) p l h = given_wider n m v.items p l h
placed_wider n m o p l h = tt

placed_more : (n m : ℕ) (os : List Object) (ps : List ℕ) (o : Object) (p : ℕ) → n ≤ m
    → ArePlaced n os ps → IsPlaced m o p → ArePlaced m (os ++ o ∷ []) (ps ++ p ∷ [])
placed_more n m [] [] o p l h w = (w, tt)
placed_more n m (q ∷ os) (r ∷ ps) o p l h w =
    (placed_wider n m q r l h.0, placed_more n m os ps o p l h.1 w)
placed_more n m os ps o p l h w = absurd h

-- the first objects are settled
pub record SettledTo (all : List Kept) (os : List Object) (ds : List Dict)
    (ps : List ℕ) : Type 0 where
  pub placed : ArePlaced (length ds) os ps
  pub settled : AreSettled all (kept_all os) (nodes_from ds os ps)

pub none_settled : (all : List Kept) → SettledTo all [] [] []
none_settled all = record { placed = tt; settled = tt }

module _ (all : List Kept) (os : List Object) (ds : List Dict) (ps : List ℕ)
    (h : SettledTo all os ds ps) where
  one_more : (es : List Dict) (o : Object) → length ds ≤ length es
      → nodes_from es os ps ≡ nodes_from ds os ps → IsPlaced (length es) o (length ds)
      → Settles all (kept_of o) (node_of es (length ds) o)
      → SettledTo all (os ++ o ∷ []) es (ps ++ length ds ∷ [])
  one_more es o l e p s = record {
    placed = placed_more (length ds) (length es) os ps o (length ds) l h.placed p;
    settled = rw (kept_append os o, nodes_more (length ds) es os ps o (length ds) h.placed, e)
        (settled_more all (kept_all os) (nodes_from ds os ps) (kept_of o)
        (node_of es (length ds) o) h.settled s);
  }

  dict_longer : (es : List Dict) (xs : List ℕ) → AddsMembers all (length all) xs ds es
      → length ds ≤ length es
  dict_longer es [] a = omega (arith, ap length a)
  dict_longer es (x ∷ xs) a = omega (arith, ap length a.1, length-append ds (a.0 ∷ []))

  dict_same : (es : List Dict) (xs : List ℕ) → AddsMembers all (length all) xs ds es
      → nodes_from es os ps ≡ nodes_from ds os ps
  dict_same es [] a = ap (λ z. nodes_from z os ps) a
  dict_same es (x ∷ xs) a = ap (λ z. nodes_from z os ps) a.1 ∙ nodes_same ds a.0 os ps h.placed

  dict_placed : (es : List Dict) (xs : List ℕ) → AddsMembers all (length all) xs ds es
      → IsGivenPlace (length es) xs (length ds)
  dict_placed es [] a = tt
  dict_placed es (x ∷ xs) a = omega (arith, ap length a.1, length-append ds (a.0 ∷ []))

  dict_settles : (es : List Dict) (xs : List ℕ) → AddsMembers all (length all) xs ds es
      → Settles all (record { kind = OfPairs; given = xs })
      (DictNode (lent (members_of xs es (length ds))))
  dict_settles es [] a = record { content = refl; below = All-nil _; ordered = tt }
  dict_settles es (x ∷ xs) a = rw (a.1, get_last ds a.0)
      (record { content = ap PairsOf a.2.pairs; below = a.2.below; ordered = a.2.ascending })

  scalar : (es : List Dict) (o : Object) → es ≡ ds → IsPlaced (length es) o (length ds)
      → Settles all (kept_of o) (node_of es (length ds) o)
      → SettledTo all (os ++ o ∷ []) es (ps ++ length ds ∷ [])
  scalar es o e p s = one_more es o (omega (arith, ap length e))
      (ap (λ z. nodes_from z os ps) e) p s

  pub settled_on : (es : List Dict) (o : Object) → All (λ x. x < length all) (kept_of o).given
      → Adds all (length all) o ds es → SettledTo all (os ++ o ∷ []) es (ps ++ length ds ∷ [])
  settled_on es (Pairs v) g a = one_more es (Pairs v) (dict_longer es v.items a)
      (dict_same es v.items a) (dict_placed es v.items a) (dict_settles es v.items a)
  settled_on es (Single n) g a = scalar es (Single n) a tt
      (record { content = refl; below = g; ordered = tt })
  settled_on es (Items v) g a = scalar es (Items v) a tt
      (record { content = refl; below = g; ordered = tt })
  settled_on es Null g a = scalar es Null a tt (record { content = refl; below = tt; ordered = tt })
  settled_on es (Truth b) g a = scalar es (Truth b) a tt
      (record { content = refl; below = tt; ordered = tt })
  settled_on es (Int i) g a = scalar es (Int i) a tt
      (record { content = refl; below = tt; ordered = tt })
  settled_on es (Lent t) g a = scalar es (Lent t) a tt
      (record { content = refl; below = tt; ordered = tt })
  settled_on es (Decoded t) g a = scalar es (Decoded t) a tt
      (record { content = refl; below = tt; ordered = tt })

-- the members of a dict that was given some
pub adds_some : (all : List Kept) (n : ℕ) (xs : List ℕ) (old new : List Dict) (d : Dict)
    → (length xs == 0) ≡ false → new ≡ old ++ d ∷ [] → AreMembers all n xs d.items
    → AddsMembers all n xs old new
adds_some all n [] old new d e f m = cc
adds_some all n (x ∷ xs) old new d e f m = (d, f, m)

-- one object after another
pub settled_next : (os ls : List Object) (i : ℕ) (o : Object) (ds es : List Dict) (ps qs : List ℕ)
    (p : ℕ)
    → ls ≡ os → i < length os → o ≡ get_or os i o → AreGivenBelow (length os) (kept_all os)
    → SettledTo (kept_all os) (take i os) ds ps → Adds (kept_all ls) (length ls) o ds es
    → p ≡ length ds → qs ≡ ps ++ p ∷ [] → SettledTo (kept_all os) (take (i + 1) os) es qs
settled_next os ls i o ds es ps qs p same l e g h a place q =
    let n = kept_length os in
    let b = subst (λ z. Adds (kept_all z) (length z) o ds es) same a in
    let c = subst (λ k. Adds (kept_all os) k o ds es) (sym n) b in
    let d = subst (λ k. All (λ x. x < k) (kept_of o).given) (sym n)
    (given_there (length os) os i o g l e) in
    let t : take (i + 1) os ≡ take i os ++ o ∷ [] = take_more os i o l
    ∙ ap (λ z. take i os ++ z ∷ []) (sym e) in
    rw (t, q, place) (settled_on (kept_all os) (take i os) ds ps h es o d c)

pub all_settled : (all : List Kept) (os : List Object) (i : ℕ) (ds : List Dict) (ps : List ℕ)
    → length os ≤ i → SettledTo all (take i os) ds ps
    → AreSettled all (kept_all os) (nodes_from ds os ps)
all_settled all os i ds ps l h = rw (take_all i os l) at h.settled
