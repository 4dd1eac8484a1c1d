-- Keys by the places of their texts.
use Rattle.std.proofs.lemmas.Map.Lookups.{exact_bytes, exact_unsigned}
use Rattle.std.proofs.lemmas.Map.Views.{All-values-insert_entry}
use Rattle.std.proofs.Common.{◌≡◌, ℕ, zero, suc, ◌+◌, ◌<◌, ◌≤◌, List, [], ◌∷◌, ◌++◌, length, drop}
use Rattle.std.proofs.Common.{get_or, refl, sym, ap, ◌∙◌, subst, arith, inl, inr, Option, Some}
use Rattle.std.proofs.Common.{None, IfSome, Ordering, Less, Equal, Greater, All}
use Rattle.std.specs.Ordering.{nat_cmp, match_ordering, ordering_reverse}
use Rattle.std.specs.Cmp.{nat_cmp_is}
use Rattle.std.specs.Cmp.Lexicographic.{slice_cmp}
use Rattle.std.specs.BTreeMap.{insert_entry}
use Rattle.std.specs.List.{AllByRecursion}
use Rattle.std.specs.List.Sorted.{IsStrictlySortedBy}
use Rattle.std.specs.Map.{keys_of, values_of}
use Rattle.std.proofs.lemmas.Bool.{cases_lt}
use Rattle.std.proofs.lemmas.Cmp.{nat_cmp_total, nat_list_cmp_total}
use Rattle.std.proofs.lemmas.List.Elements.{All-append, All-cons, All-get_or, All-head, All-nil}
use Rattle.std.proofs.lemmas.List.Elements.{All-tail}
use Rattle.pkjson.specs.Private.Arena.{Kept, kind_at}
use Rattle.pkjson.specs.Contents.{characters, paired, standing}
use Rattle.pkjson.specs.Private.Nodes.{named_members, AllAbove, Ascending}
use Rattle.pkjson.specs.Private.Ranks.{text_in, StandsIn, ArePlaces, AreMembers}
use Rattle.pkjson.proofs.Parts.NodesHeld.{Member}
use Rattle.pkjson.proofs.DictKeys.SettledMembers.{insert_all, matched, two_more, none_left}

pub all_twice : (n : ℕ) (xs : List ℕ) (x : ℕ) → x < n → All (λ y. y < n) xs
    → All (λ y. y < n) (xs ++ x ∷ x ∷ [])
all_twice n xs x l h = All-append (λ y. y < n) xs (x ∷ x ∷ []) h
    (All-cons (λ y. y < n) x (x ∷ []) l (All-cons (λ y. y < n) x [] l (All-nil (λ y. y < n))))

pub same_text : (x y : List ℕ) → slice_cmp nat_cmp x y ≡ Equal → x ≡ y
same_text = exact_bytes

pub place_at : (ts : List Member) (ks : List Kept) (ps : List (Option ℕ)) → ArePlaces ts ks ps
    → (i : ℕ) (d : Option ℕ) → i < length ps → IfSome (get_or ps i d)
    (StandsIn ts (characters (kind_at ks i)))
place_at ts ks [] h i d l = absurd (omega arith)
place_at ts [] (p ∷ ps) h i d l = absurd h
place_at ts (k ∷ ks) (p ∷ ps) h zero d l = h.0
place_at ts (k ∷ ks) (p ∷ ps) h (suc i) d l = place_at ts ks ps h.1 i d (omega arith)

pub text_there : (ts : List Member) (i : ℕ) (d : Member) → i < length ts → d ≡ get_or ts i d
    → d.0.now ≡ text_in ts i
text_there [] i d l e = absurd (omega arith)
text_there (t ∷ ts) zero d l e = ap (λ m. m.0.now) e
text_there (t ∷ ts) (suc i) d l e = text_there ts i d (omega arith) e

-- a place that is kept is the one that was found
pub short_place : (P : ℕ → Type 0) (o q : Option ℕ) → IfSome o P → IfSome q (λ p. o ≡ Some p)
    → IfSome q P
short_place P o (Some p) h e = subst (λ z. IfSome z P) e h
short_place P o None h e = tt

-- the next object's place
pub places_more : (ts : List Member) (ks : List Kept) (ps : List (Option ℕ)) (p : Option ℕ)
    → ArePlaces ts ks ps → length ps < length ks
    → IfSome p (StandsIn ts (characters (kind_at ks (length ps)))) → ArePlaces ts ks (ps ++ p ∷ [])
places_more ts [] [] p h l s = absurd (omega arith)
places_more ts (k ∷ ks) [] p h l s = (s, tt)
places_more ts [] (q ∷ ps) p h l s = absurd h
places_more ts (k ∷ ks) (q ∷ ps) p h l s = (h.0, places_more ts ks ps p h.1 (omega arith) s)

-- the order of places is that of the texts there
above_at : (k : List ℕ) (ts : List Member) (j : ℕ) → AllAbove k (named_members ts) → j < length ts
    → slice_cmp nat_cmp (text_in ts j) k ≡ Greater
above_at k [] j h l = absurd (omega arith)
above_at k (t ∷ ts) zero h l = h.0
above_at k (t ∷ ts) (suc j) h l = above_at k ts j h.1 (omega arith)

greater_at : (ts : List Member) (i j : ℕ) → Ascending (named_members ts) → i < j → j < length ts
    → slice_cmp nat_cmp (text_in ts j) (text_in ts i) ≡ Greater
greater_at (t ∷ ts) zero (suc j) h l m = above_at t.0.now ts j h.0 (omega arith)
greater_at (t ∷ ts) (suc i) (suc j) h l m = greater_at ts i j h.1 (omega arith) (omega arith)
greater_at ts i j h l m = absurd (omega arith)

own_reverse : (o : Ordering) → o ≡ ordering_reverse o → o ≡ Equal
own_reverse Equal e = refl
own_reverse o e = cc

cmp_at : (ts : List Member) (i j : ℕ) → Ascending (named_members ts) → i < length ts → j < length ts
    → slice_cmp nat_cmp (text_in ts i) (text_in ts j) ≡ nat_cmp i j
cmp_at ts i j h l m = elim (cases_lt i j) [
  | inl p ↦ nat_list_cmp_total.antisymm (text_in ts i) (text_in ts j)
      ∙ ap ordering_reverse (greater_at ts i j h p m) ∙ nat_cmp_is i j Less p
  | inr p ↦ elim (cases_lt j i) [
    | inl q ↦ greater_at ts j i h q l ∙ nat_cmp_is i j Greater q
    | inr q ↦
        let e : j ≡ i = omega arith in
        ap (λ k. slice_cmp nat_cmp (text_in ts i) (text_in ts k)) e
        ∙ own_reverse (slice_cmp nat_cmp (text_in ts i) (text_in ts i))
        (nat_list_cmp_total.antisymm (text_in ts i) (text_in ts i))
        ∙ nat_cmp_is i j Equal (sym e)
  ]
]

equal_key : (o : Ordering) (x y : List ℕ) → o ≡ slice_cmp nat_cmp x y
    → (a c r : List (List ℕ × ℕ)) (w : ℕ) → match_ordering o a ((x, w) ∷ r) c
    ≡ match_ordering o a ((y, w) ∷ r) c
equal_key Equal x y e a c r w = ap (λ z. (z, w) ∷ r) (same_text x y (sym e))
equal_key o x y e a c r w = refl

module _ (ts : List Member) where
  -- each stands by the place of its text
  abbrev ByPlace : ℕ × Member → Type 0
  ByPlace e = StandsIn ts e.1.0.now e.0

  insert_valued : Ascending (named_members ts) → (es : List (ℕ × Member)) (i : ℕ) (m : Member)
      → StandsIn ts m.0.now i → All ByPlace es → named_members
      (values_of (insert_entry nat_cmp es i m)) ≡ insert_entry (slice_cmp nat_cmp)
      (named_members (values_of es)) m.0.now m.1
  insert_valued a [] i m s h = refl
  insert_valued a (e ∷ es) i m s h =
      let g = All-head ByPlace e es h in
      let q : nat_cmp i e.0 ≡ slice_cmp nat_cmp m.0.now e.1.0.now = sym (cmp_at ts i e.0 a s.0 g.0)
      ∙ ap (λ z. slice_cmp nat_cmp z (text_in ts e.0)) s.1
      ∙ ap (λ z. slice_cmp nat_cmp m.0.now z) g.1 in
      matched (λ z. named_members (values_of z)) (nat_cmp i e.0) ((i, m) ∷ e ∷ es) ((e.0, m) ∷ es)
      (e ∷ insert_entry nat_cmp es i m)
      ∙ equal_key (nat_cmp i e.0) m.0.now e.1.0.now q
      ((m.0.now, m.1) ∷ named_members (values_of (e ∷ es)))
      (named_members (values_of (e ∷ insert_entry nat_cmp es i m)))
      (named_members (values_of es)) m.1
      ∙ ap
      (λ o. match_ordering o ((m.0.now, m.1) ∷ named_members (values_of (e ∷ es)))
      ((e.1.0.now, m.1) ∷ named_members (values_of es))
      (named_members (values_of (e ∷ insert_entry nat_cmp es i m)))) q
      ∙ ap
      (λ l. match_ordering (slice_cmp nat_cmp m.0.now e.1.0.now)
      ((m.0.now, m.1) ∷ named_members (values_of (e ∷ es)))
      ((e.1.0.now, m.1) ∷ named_members (values_of es)) ((e.1.0.now, e.1.1) ∷ l))
      (insert_valued a es i m s (All-tail ByPlace e es h))

  insert_stands : (es : List (ℕ × Member)) (i : ℕ) (m : Member) → StandsIn ts m.0.now i
      → All ByPlace es → All ByPlace (insert_entry nat_cmp es i m)
  insert_stands es i m s h = insert_all nat_cmp ByPlace i m s
      (λ j e. subst (λ z. StandsIn ts m.0.now z) (exact_unsigned i j e) s) es h

  above_stands : Ascending (named_members ts) → (e : ℕ × Member) (es : List (ℕ × Member))
      → AllByRecursion (λ y. nat_cmp e.0 y ≡ Less) (keys_of es) → ByPlace e → All ByPlace es
      → AllAbove e.1.0.now (named_members (values_of es))
  above_stands a e [] l s h = tt
  above_stands a e (f ∷ es) l s h =
      let g = All-head ByPlace f es h in (
        ap (λ z. slice_cmp nat_cmp z e.1.0.now) (sym g.1)
            ∙ ap (λ z. slice_cmp nat_cmp (text_in ts f.0) z) (sym s.1) ∙ cmp_at ts f.0 e.0 a g.0 s.0
            ∙ nat_cmp_total.antisymm f.0 e.0 ∙ ap ordering_reverse l.0,
        above_stands a e es l.1 s (All-tail ByPlace f es h),
      )

  ascending_stands : Ascending (named_members ts) → (es : List (ℕ × Member))
      → IsStrictlySortedBy nat_cmp (keys_of es) → All ByPlace es
      → Ascending (named_members (values_of es))
  unfolding IsStrictlySortedBy
  ascending_stands a [] o h = tt
  ascending_stands a (e ∷ es) o h = (
    above_stands a e es o.0 (All-head ByPlace e es h) (All-tail ByPlace e es h),
    ascending_stands a es o.1 (All-tail ByPlace e es h),
  )

-- the pairs up to a place are among these entries
pub record Pairing (ts : List Member) (ks : List Kept) (n : ℕ) (given : List ℕ) (i : ℕ)
    (es : List (ℕ × Member)) : Type 0 where
  pub within : i ≤ length given
  pub rest : standing [] (paired (kind_at ks) given)
      ≡ standing (named_members (values_of es)) (paired (kind_at ks) (drop i given))
  pub keys : IsStrictlySortedBy nat_cmp (keys_of es)
  pub stands : All (λ e. StandsIn ts e.1.0.now e.0) es
  pub below : All (λ m. m.1 < n) (values_of es)

module _ (ts : List Member) (ks : List Kept) (n : ℕ) (given : List ℕ) where
  pub pairing_goes_on : (i : ℕ) (es fs : List (ℕ × Member)) (place : ℕ) (m : Member)
      → Ascending (named_members ts) → Pairing ts ks n given i es → i + 1 < length given
      → All (λ x. x < n) given → StandsIn ts (characters (kind_at ks (get_or given i 0))) place
      → m.0.now ≡ text_in ts place → m.1 ≡ get_or given (i + 1) 0
      → fs ≡ insert_entry nat_cmp es place m → IsStrictlySortedBy nat_cmp (keys_of fs)
      → Pairing ts ks n given (i + 2) fs
  pairing_goes_on i es fs place m a p l g s t w f o = record {
    within = omega arith;
    rest =
        p.rest
        ∙ ap (standing (named_members (values_of es))) (two_more (kind_at ks) given i l)
        ∙ ap (λ b. standing b (paired (kind_at ks) (drop (i + 2) given)))
        (sym (ap (λ z. named_members (values_of z)) f
        ∙ insert_valued ts a es place m (s.0, sym t) p.stands
        ∙ ap (λ z. insert_entry (slice_cmp nat_cmp) (named_members (values_of es)) z m.1) (t ∙ s.1)
        ∙ ap
        (λ z. insert_entry (slice_cmp nat_cmp) (named_members (values_of es))
        (characters (kind_at ks (get_or given i 0))) z) w));
    keys = o;
    stands = rw f (insert_stands ts es place m (s.0, sym t) p.stands);
    below = rw f (All-values-insert_entry nat_cmp place m (λ v. v.1 < n) es p.below
        (subst (λ z. z < n) (sym w) (All-get_or (λ x. x < n) given (i + 1) 0 l g)));
  }

  pub pairing_ends : (i : ℕ) (es : List (ℕ × Member)) → Ascending (named_members ts)
      → Pairing ts ks n given i es → length given ≤ i + 1 → AreMembers ks n given (values_of es)
  pairing_ends i es a p l = record {
    ascending = ascending_stands ts a es p.keys p.stands;
    below = p.below;
    pairs = sym (p.rest ∙ ap (standing (named_members (values_of es)))
        (none_left (kind_at ks) given i l));
  }
