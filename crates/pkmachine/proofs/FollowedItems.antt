-- What an instruction does to entries and the memo, it does to the items in them.
use Rattle.std.proofs.Common.{◌≡◌, ◌∙◌, ℕ, List, [], ◌∷◌, ◌++◌, map, Option, Some, None}
use Rattle.std.proofs.Common.{Result, Ok, Err, length, option_map, refl, sym, ap, subst}
use Rattle.std.proofs.lemmas.List.{length-map, map-append}
use Rattle.pkops.specs.Operands.{memo_number}
use Rattle.pkops.specs.Spelling.{Instruction}
use Rattle.pkstack.specs.declared.Move.{Move}
use Rattle.pkstack.specs.declared.Takes.{Takes}
use Rattle.pkstack.specs.Shape.{Breach, Entry, Mark, Item, Shape, Taken, operands, put, moved}
use Rattle.pkmachine.specs.declared.held.Held.{Held}
use Rattle.pkmachine.specs.AlikeLaws.{AlikeTaken, SameResult, moved_alike, operands_alike}
use Rattle.pkmachine.specs.Covers.{Alike, AlikeCell, AlikeEntry, Pointwise}
use Rattle.pkmachine.specs.Effects.{Gives, Names, Operates}
use Rattle.pkmachine.specs.Following.{Follower, followed_by, item_left, move_followed}
use Rattle.pkmachine.specs.Private.Items.{carried_with, item_of, items_in, items_on, shape_of}

module _ {I : Type 0} where
  abbrev HasItem : Held I → I → Type 0
  HasItem held item = item_of held ≡ item

  have_on : (es : List (Entry (Held I))) → Pointwise (AlikeEntry HasItem) es (items_on es)
  have_on [] = tt
  have_on (Mark ∷ es) = (tt, have_on es)
  have_on (Item held ∷ es) = (refl, have_on es)

  have_in : (cs : List (ℕ × Held I)) → Pointwise (AlikeCell HasItem) cs (items_in cs)
  have_in [] = tt
  have_in (c ∷ cs) = ((refl, refl), have_in cs)

  on_is : (es : List (Entry (Held I))) (ks : List (Entry I)) → Pointwise (AlikeEntry HasItem) es ks
      → ks ≡ items_on es
  on_is [] [] h = refl
  on_is (Mark ∷ es) (Mark ∷ ks) h = ap (λ l. Mark ∷ l) (on_is es ks h.1)
  on_is (Item v ∷ es) (Item k ∷ ks) h = λ i. Item (sym h.0 i) ∷ on_is es ks h.1 i
  on_is _ _ h = absurd (assumption)

  in_is : (cs : List (ℕ × Held I)) (ks : List (ℕ × I)) → Pointwise (AlikeCell HasItem) cs ks
      → ks ≡ items_in cs
  in_is [] [] h = refl
  in_is (c ∷ cs) (k ∷ ks) h = λ i. (sym h.0.0 i, sym h.0.1 i) ∷ in_is cs ks h.1 i
  in_is _ _ h = absurd h

  values_is : (vs : List (Held I)) (ks : List I) → Pointwise HasItem vs ks → ks ≡ map item_of vs
  values_is [] [] h = refl
  values_is (v ∷ vs) (k ∷ ks) h = λ i. sym h.0 i ∷ values_is vs ks h.1 i
  values_is _ _ h = absurd h

  taken_is : (x : Result (Taken (Held I)) Breach) (y : Result (Taken I) Breach)
      (t : Taken (Held I)) → SameResult (AlikeTaken HasItem) x y → x ≡ Ok t
      → y ≡ Ok (record { operands = map item_of t.operands; below = items_on t.below })
  taken_is (Ok a) (Ok b) t s e =
      let e' : a ≡ t = cc in
      let s' = subst (λ z. AlikeTaken HasItem z b) e' s in
      let is = values_is t.operands b.operands s'.operands in
      let at = on_is t.below b.below s'.below in
      λ i. Ok (record { operands = is i; below = at i })
  taken_is (Err a) y t s e = cc
  taken_is (Ok a) (Err b) t s e = absurd s

  -- the operation takes the items of its operands
  found_items : (takes : Takes) (es : List (Entry (Held I))) (t : Taken (Held I))
      → operands takes es ≡ Ok t → operands takes (items_on es)
      ≡ Ok (record { operands = map item_of t.operands; below = items_on t.below })
  found_items takes es t e = taken_is (operands takes es) (operands takes (items_on es)) t
      (operands_alike HasItem takes es (items_on es) (have_on es)) e

  shape_is : (x : Result (Shape (Held I)) Breach) (y : Result (Shape I) Breach)
      (h : Shape (Held I)) → SameResult (Alike HasItem) x y → x ≡ Ok h → y ≡ Ok (shape_of h)
  shape_is (Ok a) (Ok b) h s e =
      let e' : a ≡ h = cc in
      let s' = subst (λ z. Alike HasItem z b) e' s in
      let on = on_is h.entries b.entries s'.entries in
      let in' = in_is h.memo b.memo s'.memo in
      λ i. Ok (record { entries = on i; memo = in' i })
  shape_is (Err a) y h s e = cc
  shape_is (Ok a) (Err b) h s e = absurd s

  -- the move moves the items
  moved_items : (m : Move) (n : ℕ) (old new : Shape (Held I)) → moved m n old ≡ Ok new
      → moved m n (shape_of old) ≡ Ok (shape_of new)
  moved_items m n old new e = shape_is (moved m n old) (moved m n (shape_of old)) new
      (moved_alike HasItem m n old (shape_of old)
      (record { entries = have_on old.entries; memo = have_in old.memo })) e

  put_items : (v : Option (Held I)) (vs : List (Held I))
      → items_on (put v vs) ≡ put (option_map item_of v) (map item_of vs)
  put_items (Some v) vs = refl
  put_items None [] = refl
  put_items None (v ∷ vs) = refl

  -- the items on the stack after an operation
  left_items : (v : Option (Held I)) (o : Option I) (t : Taken (Held I)) → option_map item_of v ≡ o
      → items_on (put v t.operands ++ t.below)
      ≡ put o (map item_of t.operands) ++ items_on t.below
  left_items v o t e = map-append _ (put v t.operands) t.below
      ∙ ap (λ l. l ++ items_on t.below) (put_items v t.operands
      ∙ ap (λ p. put p (map item_of t.operands)) e)

-- the domain follows an operation that found its operands
pub operation_follows : {I D : Type 0} (follows : Follower I D) (takes : Takes) (names : Names)
    (gives : Gives) (i : Instruction) (memo : List (ℕ × I)) (old new : List (Entry (Held I)))
    (was is : D) (t : Taken (Held I)) (v : Option (Held I)) → operands takes old ≡ Ok t
    → option_map item_of v ≡ item_left gives (follows.given was i (map item_of t.operands))
    → new ≡ put v t.operands ++ t.below → is ≡ follows.after was i (map item_of t.operands)
    → followed_by follows (Operates takes names gives) i (carried_with memo old was)
    ≡ Ok (carried_with memo new is)
operation_follows follows takes names gives i memo old new was is t v found left at after =
    let on = ap items_on at ∙ left_items v _ t left in
    rw (found_items takes old t found)
    (λ j. Ok (record {
      shape = record { entries = sym on j; memo = memo };
      domain = sym after j;
    }))

-- as many objects are in the memo as items
kept_items : {I : Type 0} (memo : List (ℕ × Held I)) → length (items_in memo) ≡ length memo
kept_items memo = length-map memo _

-- the domain follows a move
pub move_follows : {I D : Type 0} (follows : Follower I D) (m : Move) (i : Instruction)
    (old new : Shape (Held I)) (was is : D)
    → is ≡ follows.after_move was m (length old.memo) i
    → moved m (memo_number i) old ≡ Ok new
    → move_followed follows m i (record { shape = shape_of old; domain = was })
    ≡ Ok (record { shape = shape_of new; domain = is })
move_follows follows m i old new was is after e =
    rw (moved_items m (memo_number i) old new e)
    (ap (λ d. Ok (record { shape = shape_of new; domain = d }))
    (sym (after ∙ ap (λ kept. follows.after_move was m kept i) (sym (kept_items old.memo)))))
