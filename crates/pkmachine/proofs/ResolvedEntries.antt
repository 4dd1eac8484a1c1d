-- The stack and the memo as knowledge, given the table of texts.
use Rattle.std.proofs.Common.{◌≡◌, ℕ, suc, ◌≤◌, List, [], ◌∷◌, ◌++◌, length, map, drop, inl, inr}
use Rattle.std.proofs.Common.{Option, Some, None, Result, Ok, Err, IfOk, OnOk, OnErr, refl, sym, ap}
use Rattle.std.proofs.Common.{subst, ◌∙◌, arith, append-nil, length-append}
use Rattle.std.proofs.Math.ListN.{get_or-append}
use Rattle.std.proofs.Math.Seq.{get_or-append_seam}
use Rattle.pkmachine.specs.declared.held.Held.{Held}
use Rattle.pkmachine.specs.declared.value.Value.{Value}
use Rattle.pkmachine.specs.declared.value.Value.TheVariants as value
use Rattle.pkstack.specs.declared.Move.{Move}
use Rattle.pkstack.specs.declared.Takes.{Takes}
use Rattle.pkstack.specs.Shape.{Breach, Entry, Mark, Item, Shape, Taken, operands, put, moved}
use Rattle.pkstack.specs.Shape.{marks_of, top}
use Rattle.pkmachine.specs.Covers.{Pointwise, AlikeEntry, AlikeCell, Alike}
use Rattle.pkmachine.specs.Private.StepErrors.{with_item}
use Rattle.pkstack.specs.Faults.{IsLack, IsFaultOf}
use Rattle.pkops.specs.Limits.{Bounds}
use Rattle.pkops.specs.declared.Reason.{Reason}
use Rattle.pkmachine.specs.Runs.{Text}
use Rattle.pkmachine.specs.Knowledge.{Known, Knowledge}
use Rattle.pkimport.specs.Table.{Noted, HasMoreTexts}
use Rattle.pkmachine.specs.Private.Slots.{IsTextBelow, known, value_known, seen, remembered}
use Rattle.pkmachine.specs.Private.Slots.{resolved, StandsAs}
use Rattle.pkmachine.specs.Private.Slots.{StandsIf, Sees, Resolves}
use Rattle.pkmachine.specs.AlikeLaws.{SameResult, Pointwise-map, Pointwise-append}
use Rattle.pkmachine.specs.AlikeLaws.{AlikeEntry-map, AlikeTaken, operands_alike, front_alike}
use Rattle.pkmachine.specs.AlikeLaws.{moved_alike}

abbrev first : {A : Type 0} → Result (A × List (Entry A)) Breach → Option A
first (Ok t) = Some t.0
first (Err b) = None

-- ---- what is known agrees with the entries

module _ {I : Type 0} (ts : List (List ℕ)) where
  pub sees_is : (es : List (Entry (Held I))) (ks : List (Entry Known)) → Sees ts es ks
      → ks ≡ seen ts es
  sees_is [] [] h = refl
  sees_is (Mark ∷ es) (Mark ∷ ks) h = ap (λ l. Mark ∷ l) (sees_is es ks h.1)
  sees_is (Item v ∷ es) (Item k ∷ ks) h = λ i. Item (sym h.0.is i) ∷ sees_is es ks h.1 i
  sees_is _ _ h = absurd (assumption)

  pub sees_seen : (es : List (Entry (Held I))) (ks : List (Entry Known)) → Sees ts es ks
      → Sees ts es (seen ts es)
  sees_seen es ks h = subst (λ l. Sees ts es l) (sees_is es ks h) h

  recalls_is : (cs : List (ℕ × Held I)) (ks : List (ℕ × Known))
      → Pointwise (AlikeCell (StandsAs ts)) cs ks → ks ≡ remembered ts cs
  recalls_is [] [] h = refl
  recalls_is (c ∷ cs) (k ∷ ks) h = λ i. (sym h.0.0 i, sym h.0.1.is i) ∷ recalls_is cs ks h.1 i
  recalls_is _ _ h = absurd h

  pub values_are : (vs : List (Held I)) (ks : List Known) → Pointwise (StandsAs ts) vs ks
      → ks ≡ map (known ts) vs
  values_are [] [] h = refl
  values_are (v ∷ vs) (k ∷ ks) h = λ i. sym h.0.is i ∷ values_are vs ks h.1 i
  values_are _ _ h = absurd h

  resolves_is : (h : Shape (Held I)) (k : Knowledge) → Alike (StandsAs ts) h k → k ≡ resolved ts h
  resolves_is h k a = λ i.
      record {
        entries = sees_is h.entries k.entries a.entries i;
        memo = recalls_is h.memo k.memo a.memo i;
      }

  pub length_seen : (es : List (Entry (Held I))) → length (seen ts es) ≡ length es
  length_seen [] = refl
  length_seen (e ∷ es) = ap suc (length_seen es)

  pub length_recalled : (cs : List (ℕ × Held I)) → length (remembered ts cs) ≡ length cs
  length_recalled [] = refl
  length_recalled (c ∷ cs) = ap suc (length_recalled cs)

  pub marks_seen : (es : List (Entry (Held I))) → marks_of es ≡ marks_of (seen ts es)
  marks_seen [] = refl
  marks_seen (Mark ∷ es) = ap suc (marks_seen es)
  marks_seen (Item v ∷ es) = marks_seen es

  -- ---- moves

  module _ (m : Move) (n : ℕ) (h : Shape (Held I)) (r : Resolves ts h) where
    same : SameResult (Alike (StandsAs ts)) (moved m n h) (moved m n (resolved ts h))
    same = moved_alike (StandsAs ts) m n h (resolved ts h) r

    ok_same : (x : Result (Shape (Held I)) Breach) (y : Result Knowledge Breach)
        (h' : Shape (Held I)) → SameResult (Alike (StandsAs ts)) x y → x ≡ Ok h'
        → (y ≡ Ok (resolved ts h'))
        × Resolves ts h'
    ok_same (Ok a) (Ok b) h' s e =
        let e' : a ≡ h' = cc in
        let s' = subst (λ z. Alike (StandsAs ts) z b) e' s in
        let is = resolves_is h' b s' in
        (ap Ok is, subst (λ z. Alike (StandsAs ts) h' z) is s')
    ok_same (Err a) y h' s e = cc
    ok_same (Ok a) (Err b) h' s e = absurd s

    err_same : (x : Result (Shape (Held I)) Breach) (y : Result Knowledge Breach) (b : Breach)
        → SameResult (Alike (StandsAs ts)) x y → x ≡ Err b → y ≡ Err b
    err_same (Err a) (Err c) b s e = let e' : a ≡ b = cc in ap Err (sym s ∙ e')
    err_same (Ok a) y b s e = cc
    err_same (Err a) (Ok c) b s e = absurd s

    pub moved_seen : (h' : Shape (Held I)) → moved m n h ≡ Ok h'
        → moved m n (resolved ts h) ≡ Ok (resolved ts h')
    moved_seen h' e = (ok_same (moved m n h) (moved m n (resolved ts h)) h' same e).0

    pub moved_resolves : (h' : Shape (Held I)) → moved m n h ≡ Ok h' → Resolves ts h'
    moved_resolves h' e = (ok_same (moved m n h) (moved m n (resolved ts h)) h' same e).1

    pub moved_lacks : (b : Breach) → moved m n h ≡ Err b → moved m n (resolved ts h) ≡ Err b
    moved_lacks b e = err_same (moved m n h) (moved m n (resolved ts h)) b same e

  pub moved_is_lack : (m : Move) (n : ℕ) (h : Shape (Held I)) (r : Reason) → Resolves ts h
      → IsLack (moved m n h) r → IsLack (moved m n (resolved ts h)) r
  moved_is_lack m n h r a (b, e, g) = (b, moved_lacks m n h a b e, g)

  pub moved_fault : (m : Move) (n : ℕ) (l : Bounds) (h : Shape (Held I)) (r : Reason)
      → Resolves ts h → IsFaultOf m l n (moved m n h) r
      → IsFaultOf m l n (moved m n (resolved ts h)) r
  moved_fault m n l h r a (inl e) = inl (moved_is_lack m n h r a e)
  moved_fault m n l h r a (inr (inl (e, (k, is, past)))) =
      let p = length_seen k.entries in
      let q = length_recalled k.memo in
      inr
      (inl (
        e,
        (
          resolved ts k,
          moved_seen m n h a k is,
          elim past [
            | inl g ↦ inl (rw p g)
            | inr g ↦ inr (elim g [ inl f ↦ inl (rw q f) | inr f ↦ inr f ])
          ],
        ),
      ))
  moved_fault m n l h r a (inr (inr e)) = inr (inr e)

  -- ---- what an operation takes

  abbrev pub taken_seen : Taken (Held I) → Taken Known
  taken_seen t = record { operands = map (known ts) t.operands; below = seen ts t.below }

  -- the operands and the rest refer only to texts in the table
  pub record IsTaken (t : Taken (Held I)) : Type 0 where
    pub operands : Pointwise (StandsAs ts) t.operands (map (known ts) t.operands)
    pub below : Sees ts t.below (seen ts t.below)

  taken_same : (x : Result (Taken (Held I)) Breach) (y : Result (Taken Known) Breach)
      (t : Taken (Held I)) → SameResult (AlikeTaken (StandsAs ts)) x y → x ≡ Ok t
      → (y ≡ Ok (taken_seen t)) × IsTaken t
  taken_same (Ok a) (Ok b) t s e =
      let e' : a ≡ t = cc in
      let s' = subst (λ z. AlikeTaken (StandsAs ts) z b) e' s in
      let is = values_are t.operands b.operands s'.operands in
      let at = sees_is t.below b.below s'.below in (
        λ i. Ok (record { operands = is i; below = at i }),
        record {
          operands = subst (λ z. Pointwise (StandsAs ts) t.operands z) is s'.operands;
          below = subst (λ z. Sees ts t.below z) at s'.below;
        },
      )
  taken_same (Err a) y t s e = cc
  taken_same (Ok a) (Err b) t s e = absurd s

  taken_lack : (x : Result (Taken (Held I)) Breach) (y : Result (Taken Known) Breach) (b : Breach)
      → SameResult (AlikeTaken (StandsAs ts)) x y → x ≡ Err b → y ≡ Err b
  taken_lack (Err a) (Err c) b s e = let e' : a ≡ b = cc in ap Err (sym s ∙ e')
  taken_lack (Ok a) y b s e = cc
  taken_lack (Err a) (Ok c) b s e = absurd s

  module _ (takes : Takes) (es : List (Entry (Held I))) (h : Sees ts es (seen ts es)) where
    pub found_seen : (t : Taken (Held I)) → operands takes es ≡ Ok t
        → operands takes (seen ts es) ≡ Ok (taken_seen t)
    found_seen t e =
        (taken_same (operands takes es) (operands takes (seen ts es)) t
        (operands_alike (StandsAs ts) takes es (seen ts es) h) e).0

    pub found_is : (t : Taken (Held I)) → operands takes es ≡ Ok t → IsTaken t
    found_is t e =
        (taken_same (operands takes es) (operands takes (seen ts es)) t
        (operands_alike (StandsAs ts) takes es (seen ts es) h) e).1

    pub found_lacks : (r : Reason) → IsLack (operands takes es) r
        → IsLack (operands takes (seen ts es)) r
    found_lacks r (b, e, g) = (
      b,
      taken_lack (operands takes es) (operands takes (seen ts es)) b
          (operands_alike (StandsAs ts) takes es (seen ts es) h) e,
      g,
    )

  -- ---- the top

  top_of : (v w : Held I) (es : List (Entry (Held I))) → top (Item w ∷ es) ≡ Ok (v, es)
      → top (seen ts (Item w ∷ es)) ≡ Ok (known ts v, seen ts es)
  top_of v w es e =
      let same : Some w ≡ Some v = ap (λ r. first r) e in
      let f : w ≡ v = cc in
      ap (λ z. Ok (known ts z, seen ts es)) f

  pub top_seen : (es : List (Entry (Held I))) (v : Held I) → top es ≡ Ok (v, drop 1 es)
      → top (seen ts es) ≡ Ok (known ts v, drop 1 (seen ts es))
  top_seen (Item w ∷ es) v e = top_of v w es e
  top_seen _ v e = cc

-- ---- one more text

numbered_more : (n m : ℕ) (v : Value) → n ≤ m → IsTextBelow n v → IsTextBelow m v
numbered_more n m (value.Text t) le h = omega arith
numbered_more n m _ le h = tt

known_more : (ts more : List (List ℕ)) (v : Value) → IsTextBelow (length ts) v
    → value_known (ts ++ more) v ≡ value_known ts v
known_more ts more (value.Text n) h = ap (λ t. Some (Text t)) (get_or-append ts more [] n h)
known_more ts more _ h = refl

stands_more : {I : Type 0} (ts more : List (List ℕ)) (v : Held I) (k : Known) → StandsAs ts v k
    → StandsAs (ts ++ more) v k
stands_more ts more v k h = record {
  is = known_more ts more v.value h.numbered ∙ h.is;
  numbered = numbered_more (length ts) (length (ts ++ more)) v.value
      (omega (arith, length-append ts more)) h.numbered;
}

stands_new : {I : Type 0} (ts : List (List ℕ)) (t : List ℕ) (item : I)
    → StandsAs (ts ++ t ∷ []) (record { value = value.Text (length ts); item = item })
    (Some (Text t))
stands_new ts t item = record {
  is = ap (λ u. Some (Text u)) (get_or-append_seam ts t [] []);
  numbered = omega (arith, length-append ts (t ∷ []));
}

-- ---- a table of texts that grew

module _ {I : Type 0} (ts us : List (List ℕ)) (g : HasMoreTexts ts us) where
  stands_grown : (v : Held I) (k : Known) → StandsAs ts v k → StandsAs us v k
  stands_grown v k h = subst (λ l. StandsAs l v k) (sym g.is) (stands_more ts g.more v k h)

  pub sees_grown : (es : List (Entry (Held I))) (ks : List (Entry Known)) → Sees ts es ks
      → Sees us es ks
  sees_grown es ks h = Pointwise-map (AlikeEntry (StandsAs ts)) (AlikeEntry (StandsAs us)) es ks
      (AlikeEntry-map (StandsAs ts) (StandsAs us) stands_grown) h

  module _ (cs : List (ℕ × Held I))
      (h : Pointwise (AlikeCell (StandsAs ts)) cs (remembered ts cs)) where
    grown : Pointwise (AlikeCell (StandsAs us)) cs (remembered ts cs)
    grown = Pointwise-map (AlikeCell (StandsAs ts)) (AlikeCell (StandsAs us)) cs (remembered ts cs)
        (λ c k e. (e.0, stands_grown c.1 k.1 e.1)) h

    pub recalls_same : remembered ts cs ≡ remembered us cs
    recalls_same = recalls_is us cs (remembered ts cs) grown

    pub recalls_grown : Pointwise (AlikeCell (StandsAs us)) cs (remembered us cs)
    recalls_grown = subst (λ z. Pointwise (AlikeCell (StandsAs us)) cs z) recalls_same grown

-- ---- the result of an operation

module _ {I : Type 0} (ts : List (List ℕ)) (v : Option (Held I)) (o : Option Known)
    (given : StandsIf ts v o) (t : Taken (Held I)) (is : IsTaken ts t) where
  put_by : (v : Option (Held I)) (o : Option Known) → StandsIf ts v o
      → Sees ts (put v t.operands) (put o (map (known ts) t.operands))
  put_by None None h =
      front_alike (StandsAs ts) t.operands (map (known ts) t.operands) is.operands
  put_by (Some v) (Some k) h = (h, tt)
  put_by _ _ h = absurd h

  puts : Sees ts (put v t.operands ++ t.below)
      (put o (map (known ts) t.operands) ++ seen ts t.below)
  puts = Pointwise-append (AlikeEntry (StandsAs ts)) (put v t.operands)
      (put o (map (known ts) t.operands)) t.below (seen ts t.below) (put_by v o given) is.below

  pub put_seen : seen ts (put v t.operands ++ t.below) ≡ put o (map (known ts) t.operands)
      ++ seen ts t.below
  put_seen =
      sym (sees_is ts (put v t.operands ++ t.below)
      (put o (map (known ts) t.operands) ++ seen ts t.below) puts)

  pub put_sees : Sees ts (put v t.operands ++ t.below) (seen ts (put v t.operands ++ t.below))
  put_sees = sees_seen ts (put v t.operands ++ t.below)
      (put o (map (known ts) t.operands) ++ seen ts t.below) puts

-- ---- a new text on top

module _ {I : Type 0} (ts : List (List ℕ)) (t : List ℕ) (item : I) (es : List (Entry (Held I)))
    (h : Sees ts es (seen ts es)) where
  -- the text with its number and this item
  abbrev named : Held I
  named = record { value = value.Text (length ts); item = item }

  text_on : Sees (ts ++ t ∷ []) (Item named ∷ es)
      (Item (Some (Text t)) ∷ seen ts es)
  text_on = (
    stands_new ts t item,
    sees_grown ts (ts ++ t ∷ []) (record { more = t ∷ []; is = refl }) es (seen ts es) h,
  )

  pub text_seen : seen (ts ++ t ∷ []) (Item named ∷ es) ≡ Item (Some (Text t))
      ∷ seen ts es
  text_seen = sym (sees_is (ts ++ t ∷ []) (Item named ∷ es)
      (Item (Some (Text t)) ∷ seen ts es) text_on)

  pub text_sees : Sees (ts ++ t ∷ []) (Item named ∷ es)
      (seen (ts ++ t ∷ []) (Item named ∷ es))
  text_sees = sees_seen (ts ++ t ∷ []) (Item named ∷ es)
      (Item (Some (Text t)) ∷ seen ts es) text_on

pub table_kept : {A E : Type 0} (x : Result A E) (ts us : List (List ℕ)) → us ≡ ts
    → OnOk x (HasMoreTexts ts us)
table_kept (Ok a) ts us e = record { more = []; is = e ∙ sym (append-nil ts) }
table_kept (Err e) ts us h = tt

-- ---- an operation

pub operate_resolves : {A E I : Type 0} (x : Result A E) (l m : Noted)
    (es fs : List (Entry (Held I))) (cs : List (ℕ × Held I))
    → Resolves l.texts (record { entries = es; memo = cs })
    → OnOk x (Sees m.texts fs (seen m.texts fs)) → OnOk x (HasMoreTexts l.texts m.texts)
    → OnErr x ((fs ≡ es) × (m ≡ l)) → Resolves m.texts (record { entries = fs; memo = cs })
operate_resolves (Ok a) l m es fs cs r s g k =
    record { entries = s; memo = recalls_grown l.texts m.texts g cs r.memo }
operate_resolves (Err e) l m es fs cs r s g k = rw (k.0, k.1) r

pub remembered_on : {A E I : Type 0} (x : Result A E) (ts us : List (List ℕ))
    (cs : List (ℕ × Held I)) (P : A → List (ℕ × Known) → Type 0)
    → Pointwise (AlikeCell (StandsAs ts)) cs (remembered ts cs)
    → OnOk x (HasMoreTexts ts us) → IfOk x (λ a. P a (remembered ts cs))
    → IfOk x (λ a. P a (remembered us cs))
remembered_on (Ok a) ts us cs P r g h = subst (λ m. P a m) (recalls_same ts us g cs r) h
remembered_on (Err e) ts us cs P r g h = h

pub item_learned : {A E I : Type 0} (x : Result A E) (ts us : List (List ℕ))
    (cs : List (ℕ × Held I)) (es fs : List (Entry (Held I))) (v : Known)
    → Pointwise (AlikeCell (StandsAs ts)) cs
    (remembered ts cs) → OnOk x (HasMoreTexts ts us) → OnOk x (seen us fs ≡ Item v ∷ seen ts es)
    → OnOk x (resolved us (record { entries = fs; memo = cs }) ≡ with_item v
    (resolved ts (record { entries = es; memo = cs })))
item_learned (Ok a) ts us cs es fs v r g h = λ i.
    record { entries = h i; memo = sym (recalls_same ts us g cs r) i }
item_learned (Err e) ts us cs es fs v r g h = h
