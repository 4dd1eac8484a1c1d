-- A step that the checker accepts, in every state that it covers.
use Rattle.pkops.specs.Operands.{memo_number, pair_named}
use Rattle.std.proofs.Common.{◌≡◌, ℕ, ◌<◌, Bool, true, false, cond, ltb, List, [], ◌∷◌, ◌++◌}
use Rattle.std.proofs.Common.{length, map, Option, Some, None, Result, Ok, Err, ◌⊎◌, inl, inr, refl}
use Rattle.std.proofs.Common.{sym, ap, ◌∙◌, arith, length-append, append_assoc, append-nil}
use Rattle.std.specs.Prelude.{slice_get}
use Rattle.std.proofs.lemmas.Option.{slice_get_within, slice_get-get_or, get_or_from_slice_get}
use Rattle.std.proofs.Math.ListN.{get_or-append}
use Rattle.std.proofs.Math.Seq.{get_or-append_seam}
use Rattle.pkmachine.specs.Effects.{Effect, Operates, Moves, Stops, Raises, effect_as}
use Rattle.pkmachine.specs.Effects.{number_stored, OldStrings, Names, NoName, OfArgument}
use Rattle.pkmachine.specs.Effects.{OfOperands, Gives, Answers, Leaves}
use Rattle.pkstack.specs.Shape.{top, put, Breach, Entry, Item, Shape, Taken, and_then, unless}
use Rattle.pkstack.specs.Shape.{front, moved}
use Rattle.pkops.specs.Spelling.{Instruction}
use Rattle.pkmachine.specs.Runs.{argument_named, ObjectClass, Text, Foreign, Object, Event, Import}
use Rattle.pkmachine.specs.Runs.{Did, State, Outcome, Raise, Go, Stepped, Stopped, Named, NoImport}
use Rattle.pkmachine.specs.Runs.{Pair, NotTexts, class_at, texts_named, named, asks, given, come_of}
use Rattle.pkmachine.specs.Runs.{operated, move_step, stop_step, operate_step, perform, step_as}
use Rattle.pkmachine.specs.Knowledge.{argument_asked, Known, Knowledge, Policy, Progress, Refusal}
use Rattle.pkmachine.specs.Knowledge.{WrongClass, OffList, TooLarge, wrong_receiver, permitted}
use Rattle.pkmachine.specs.Knowledge.{unknown_pair, operands_asked, asked_of, known_given, is_past}
use Rattle.pkmachine.specs.Knowledge.{within, left_over, move_learned, operated_on, stop_learned}
use Rattle.pkmachine.specs.Knowledge.{operate_learned, learn, advance}
use Rattle.pkimport.specs.Import.{Asked, AskedPair, AskedUnknown}
use Rattle.pkops.specs.Limits.{Bounds}
use Rattle.pkmachine.specs.Covers.{Pointwise, AlikeEntry, AlikeCell, Alike, imports_of, IsAsked}
use Rattle.pkmachine.specs.Covers.{Adds, TrueBy, CoversBy}
use Rattle.pkmachine.proofs.Coverage.CoversBy.{Choose, AnswerHolds, OutcomeHolds, FollowsBy}
use Rattle.pkmachine.proofs.Coverage.CoversBy.{FollowsIfOk}
use Rattle.pkmachine.specs.AlikeLaws.{AlikeTop, top_alike, SameResult, Pointwise-append}
use Rattle.pkmachine.specs.AlikeLaws.{Alike-map, AlikeTaken, operands_alike, moved_alike}
use Rattle.pkmachine.specs.AlikeLaws.{front_alike}

abbrev pub Grows : (List Object → ℕ → Type 0) → Type 0
Grows U = (objects : List Object) (r : Object) (n : ℕ) → U objects n → U (objects ++ r ∷ []) n

pub kept_at : (objects : List Object) (r x : Object) (n : ℕ) → slice_get objects n ≡ Some x
    → slice_get (objects ++ r ∷ []) n ≡ Some x
kept_at objects r x n h =
    let lt = slice_get_within objects n x h in
    let lt' : n < length (objects ++ r ∷ []) = omega (arith, length-append objects (r ∷ [])) in
    slice_get-get_or (objects ++ r ∷ []) n x lt'
    ∙ ap Some (get_or-append objects (r ∷ []) x n lt ∙ get_or_from_slice_get objects n x x h)

pub new_at : (objects : List Object) (r : Object)
    → slice_get (objects ++ r ∷ []) (length objects) ≡ Some r
new_at objects r =
    let lt' : length objects < length (objects ++ r ∷ []) =
    omega (arith, length-append objects (r ∷ [])) in
    slice_get-get_or (objects ++ r ∷ []) (length objects) r lt'
    ∙ ap Some (get_or-append_seam objects r [] r)

-- the names of an import agree with what is known about them
abbrev pub NamesAlike : Policy → Result (Option Asked) Refusal → Named → Type 0
NamesAlike p (Ok None) n = n ≡ NoImport
NamesAlike p (Ok (Some (AskedPair a b))) n = n ≡ Pair a b
NamesAlike p (Ok (Some AskedUnknown)) n = ((a : List ℕ) × (b : List ℕ) × (n ≡ Pair a b))
    ⊎ (n ≡ NotTexts)
NamesAlike p (Err r) n = Unit {0}

permitted_alike : (p : Policy) (a b : List ℕ) (n : Named) → n ≡ Pair a b
    → NamesAlike p (permitted p a b) n
permitted_alike None a b n e = e
permitted_alike (Some list) a b n e =
    elim (list a b) as (λ t. NamesAlike (Some list)
    (cond t (Ok (Some (AskedPair a b))) (Err (OffList a b))) n) [ true ↦ e | false ↦ tt ]

argument_alike : (p : Policy) (q : Option (List ℕ × List ℕ))
    → NamesAlike p (argument_asked p q) (argument_named q)
argument_alike p (Some q) = permitted_alike p q.0 q.1 _ refl
argument_alike p None = refl

unknown_alike : (p : Policy) (x y : Option ObjectClass)
    → NamesAlike p (unknown_pair p) (texts_named x y)
unknown_alike (Some list) x y = tt
unknown_alike None (Some (Text a)) (Some (Text b)) = inl (a, b, refl)
unknown_alike None _ _ = inr refl

-- the class of an object agrees with what is known about it
abbrev pub Says : Known → Option ObjectClass → Type 0
Says None c = Unit {0}
Says (Some k) c = c ≡ Some k

texts_alike : (p : Policy) (j k : Known) (x y : Option ObjectClass) → Says j x → Says k y
    → NamesAlike p (operands_asked p j k) (texts_named x y)
texts_alike p (Some (Text a)) (Some (Text b)) x y h g = permitted_alike p a b (texts_named x y)
    (ap (λ v. texts_named v y) h ∙ ap (texts_named (Some (Text a))) g)
texts_alike p None None x y h g = unknown_alike p x y
texts_alike p None (Some (Text b)) x y h g = unknown_alike p x y
texts_alike p (Some (Text a)) None x y h g = unknown_alike p x y
texts_alike p _ _ x y h g = tt

-- the property that an answered object must have
abbrev AnswerIfAny : Gives → (List Object → ℕ → Type 0) → List Object → ℕ → ObjectClass → Type 0
AnswerIfAny Answers U objects n c = AnswerHolds U objects n c
AnswerIfAny gives U objects n c = Unit {0}

answer_if_any : (gives : Gives) (U : List Object → ℕ → Type 0) (objects : List Object) (n : ℕ)
    (c : ObjectClass) → AnswerHolds U objects n c → AnswerIfAny gives U objects n c
answer_if_any Answers U objects n c h = h
answer_if_any _ U objects n c h = tt

no_answer : (gives : Gives) (U : List Object → ℕ → Type 0) (objects : List Object) (n : ℕ)
    (c : ObjectClass) → asks gives ≡ false → AnswerIfAny gives U objects n c
no_answer Answers U objects n c h = cc
no_answer _ U objects n c h = tt

module _ (U : List Object → ℕ → Type 0) where
  pub TrueBy-Says : (objects : List Object) (k : Known) (n : ℕ) → TrueBy U objects k n
      → Says k (class_at objects n)
  TrueBy-Says objects None n h = tt
  TrueBy-Says objects (Some c) n h =
      ap (λ o. elim o as (λ _. Option ObjectClass) [ None ↦ None | Some r ↦ Some r.class_of ]) h

  names_alike : (p : Policy) (names : Names) (i : Instruction) (objects : List Object)
      (ks : List Known) (ns : List ℕ) → Pointwise (TrueBy U objects) ks ns
      → NamesAlike p (asked_of p names i ks) (named names i (map (class_at objects) ns))
  names_alike p NoName i objects ks ns h = refl
  names_alike p OfArgument i objects ks ns h = argument_alike p (pair_named i)
  names_alike p OfOperands i objects [] [] h = refl
  names_alike p OfOperands i objects (j ∷ []) (m ∷ []) h = refl
  names_alike p OfOperands i objects (j ∷ k ∷ []) (m ∷ n ∷ []) h = texts_alike p j k
      (class_at objects m) (class_at objects n) (TrueBy-Says objects j m h.0)
      (TrueBy-Says objects k n h.1.0)
  names_alike p OfOperands i objects (j ∷ k ∷ l ∷ ks) (m ∷ n ∷ o ∷ ns) h = refl
  names_alike p OfOperands i objects _ _ h = absurd (assumption)

  module _ (grows : Grows U) where
    TrueOf-grow : (objects : List Object) (r : Object) (k : Known) (n : ℕ) → TrueBy U objects k n
        → TrueBy U (objects ++ r ∷ []) k n
    TrueOf-grow objects r None n h = grows objects r n h
    TrueOf-grow objects r (Some c) n h = kept_at objects r _ n h

    -- pushes one more object, about which this is known
    pub push_alike : (objects : List Object) (r : Object) (k : Known) (es : List (Entry Known))
        (fs : List (Entry ℕ)) (ms : List (ℕ × Known)) (ns : List (ℕ × ℕ))
        → TrueBy U (objects ++ r ∷ []) k (length objects)
        → Pointwise (AlikeEntry (TrueBy U objects)) es fs
        → Pointwise (AlikeCell (TrueBy U objects)) ms ns
        → Alike (TrueBy U (objects ++ r ∷ [])) (record { entries = Item k ∷ es; memo = ms })
        (record { entries = Item (length objects) ∷ fs; memo = ns })
    push_alike objects r k es fs ms ns new h g =
        let old = Alike-map (TrueBy U objects) (TrueBy U (objects ++ r ∷ []))
        (TrueOf-grow objects r) (record { entries = es; memo = ms })
        (record { entries = fs; memo = ns }) (record { entries = h; memo = g }) in
        record { entries = (new, old.entries); memo = old.memo }

    given_alike : (gives : Gives) (i : Instruction) (t : Taken Known) (u : Taken ℕ) (n : ℕ)
        (c : ObjectClass) (objects : List Object) (ms : List (ℕ × Known)) (ns : List (ℕ × ℕ))
        → AnswerIfAny gives U objects n c → AlikeTaken (TrueBy U objects) t u
        → Pointwise (AlikeCell (TrueBy U objects)) ms ns
        → Alike (TrueBy U (given gives i n c objects).1) (record
        { entries = put (known_given gives i) t.operands ++ t.below; memo = ms })
        (record { entries = put (given gives i n c objects).0 u.operands ++ u.below; memo = ns })
    given_alike (Leaves w) i t u n c objects ms ns o h g =
        record {
          entries = Pointwise-append (AlikeEntry (TrueBy U objects)) (front t.operands)
              (front u.operands) t.below u.below
              (front_alike (TrueBy U objects) t.operands u.operands h.operands) h.below;
          memo = g;
        }
    given_alike Answers i t u n c objects ms ns o h g =
        elim (ltb n (length objects)) as (λ b. Choose b (U objects n)
        (U (objects ++ record { class_of = c; made = false } ∷ []) (length objects))
        → (let x : Option ℕ × List Object = cond b (Some n, objects)
        (Some (length objects), objects ++ record { class_of = c; made = false } ∷ []) in Alike
        (TrueBy U x.1) (record { entries = Item None ∷ t.below; memo = ms })
        (record { entries = put x.0 u.operands ++ u.below; memo = ns }))) [
          | true ↦ λ v. record { entries = (v, h.below); memo = g }
          | false ↦ λ v. push_alike objects _ _ t.below u.below ms ns v h.below g
        ] o
    given_alike _ i t u n c objects ms ns o h g =
        push_alike objects _ _ t.below u.below ms ns (new_at objects _) h.below g

    module _ (gives : Gives) (i : Instruction) (t : Taken Known) (u : Taken ℕ) (k : Knowledge)
        (s : State) (h : AlikeTaken (TrueBy U s.objects) t u)
        (m : Pointwise (AlikeCell (TrueBy U s.objects)) k.memo s.shape.memo) where
      -- what the checker knows after the operation
      abbrev progress : Option Asked → Progress
      progress a = operated_on gives i k t a

      -- the events extend those of s by `fresh`, and the step makes the import `a`
      record Fresh (a : Option Asked) (ev fresh : List Event) : Type 0 where
        ev_is : ev ≡ s.events ++ fresh
        asked_is : (d : Option ℕ) → IsAsked a (imports_of (fresh ++ Did i u.operands d ∷ []))

      adds : (a : Option Asked) (ev fresh : List Event) → Fresh a ev fresh → (d : Option ℕ)
          → Adds a s.events (ev ++ Did i u.operands d ∷ [])
      adds a ev fresh f d = record {
        added = fresh ++ Did i u.operands d ∷ [];
        grown = ap (λ x. x ++ Did i u.operands d ∷ []) f.ev_is
            ∙ append_assoc s.events fresh (Did i u.operands d ∷ []);
        asked = f.asked_is d;
      }

      asked_follows : (b : Bool) (o : Outcome) (a : Option Asked) (ev fresh : List Event)
          → asks gives ≡ b → Fresh a ev fresh → OutcomeHolds U s.objects o
          → FollowsBy U (progress a) s (come_of b gives i u o (record s { events = ev }))
      asked_follows true Raise a ev fresh e f w = inl (adds a ev fresh f None)
      asked_follows true (Go n c) a ev fresh e f w = (
        given_alike gives i t u n c s.objects k.memo s.shape.memo
            (answer_if_any gives U s.objects n c w) h m,
        adds a ev fresh f _,
      )
      asked_follows false o a ev fresh e f w = (
        given_alike gives i t u 0 Foreign s.objects k.memo s.shape.memo
            (no_answer gives U s.objects 0 Foreign e) h m,
        adds a ev fresh f _,
      )

      one_import : (o : Outcome) (a : Option Asked) (x y : List ℕ) → IsAsked a ((x, y) ∷ [])
          → OutcomeHolds U s.objects o
          → FollowsBy U (progress a) s (operated (Pair x y) gives i u o s)
      one_import o a x y e w = asked_follows (asks gives) o a (s.events ++ Import x y ∷ [])
          (Import x y ∷ []) refl (record { ev_is = refl; asked_is = λ d. e }) w

      imports_follow : (p : Policy) (a : Result (Option Asked) Refusal) (n : Named) (o : Outcome)
          → NamesAlike p a n → OutcomeHolds U s.objects o
          → FollowsIfOk U (and_then a (λ x. Ok (progress x))) s (operated n gives i u o s)
      imports_follow p (Err r) n o h w = tt
      imports_follow p (Ok None) n o e w =
          rw e
          (asked_follows (asks gives) o None s.events [] refl
          (record { ev_is = sym (append-nil s.events); asked_is = λ d. refl }) w)
      imports_follow p (Ok (Some (AskedPair x y))) n o e w = rw e (one_import o _ x y refl w)
      imports_follow p (Ok (Some AskedUnknown)) n o (inl g) w =
          rw g.2 (one_import o _ g.0 g.1 (g.0, g.1, refl) w)
      imports_follow p (Ok (Some AskedUnknown)) n o (inr e) w =
          rw e
          (inr (refl, record { added = Did i u.operands None ∷ []; grown = refl; asked = refl }))

    refused_follows : (b : Bool) (r : Refusal) (x : Result Progress Refusal) (s : State)
        (st : Stepped) → FollowsIfOk U x s st → FollowsIfOk U (cond b (Err r) x) s st
    refused_follows true r x s st h = tt
    refused_follows false r x s st h = h

    operate_follows : (p : Policy) (names : Names) (gives : Gives) (i : Instruction) (k : Knowledge)
        (s : State) (o : Outcome) (x : Result (Taken Known) Breach) (y : Result (Taken ℕ) Breach)
        → SameResult (AlikeTaken (TrueBy U s.objects)) x y
        → Pointwise (AlikeCell (TrueBy U s.objects)) k.memo s.shape.memo
        → OutcomeHolds U s.objects o → FollowsIfOk U (operate_learned p names gives i k x) s
        (operate_step names gives i o s y)
    operate_follows p names gives i k s o (Ok t) (Ok u) h m w =
        refused_follows (wrong_receiver gives t.operands) WrongClass _ s _
        (imports_follow gives i t u k s h m p (asked_of p names i t.operands) _ o
        (names_alike p names i s.objects t.operands u.operands h.operands) w)
    operate_follows p names gives i k s o (Err r) y h m w = tt
    operate_follows p names gives i k s o (Ok t) (Err r) h m w = absurd h

    shape_follows : (x : Result Knowledge Breach) (s : State) (y : Result (Shape ℕ) Breach)
        → SameResult (Alike (TrueBy U s.objects)) x y
        → FollowsIfOk U (move_learned x) s (move_step s y)
    shape_follows (Ok a) s (Ok b) h =
        (h, record { added = []; grown = sym (append-nil s.events); asked = refl })
    shape_follows (Err r) s y h = tt
    shape_follows (Ok a) s (Err r) h = absurd h

    only_item : (es : List (Entry ℕ)) (n : ℕ) (fs : List (Entry ℕ)) → top es ≡ Ok (n, fs)
        → es ≡ Item n ∷ fs
    only_item (Item m ∷ es) n fs e =
        let same : ◌≡◌ {A = ℕ × List (Entry ℕ)} (m, es) (n, fs) = cc in
        λ j. Item (same j).0 ∷ (same j).1
    only_item _ n fs e = cc

    emptied : (es : List (Entry Known)) (ms : List (ℕ × Known)) (s : State) (n : ℕ)
        (fs : List (Entry ℕ)) → top s.shape.entries ≡ Ok (n, fs)
        → Pointwise (AlikeEntry (TrueBy U s.objects)) es fs
        → Pointwise (AlikeCell (TrueBy U s.objects)) ms s.shape.memo
        → FollowsIfOk U (unless (left_over es)
        (Ok (record { after = record { entries = es; memo = ms }; import = None }))) s
        (Stopped n (record s { shape = record s.shape { entries = fs } }))
    emptied [] ms s n [] e h g =
        (only_item s.shape.entries n [] e, refl, record { entries = tt; memo = g }, refl, refl)
    emptied [] ms s n (f ∷ fs) e h g = absurd h
    emptied (x ∷ es) ms s n fs e h g = tt

    stop_follows : (ms : List (ℕ × Known)) (x : Result (Known × List (Entry Known)) Breach)
        (s : State) (y : Result (ℕ × List (Entry ℕ)) Breach) → top s.shape.entries ≡ y
        → SameResult (AlikeTop (TrueBy U s.objects)) x y
        → Pointwise (AlikeCell (TrueBy U s.objects)) ms s.shape.memo
        → FollowsIfOk U (stop_learned ms x) s (stop_step s y)
    stop_follows ms (Ok a) s (Ok b) e h g = emptied a.1 ms s b.0 b.1 e h.below g
    stop_follows ms (Err r) s y e h g = tt
    stop_follows ms (Ok a) s (Err r) e h g = absurd h

    pub learn_follows : (p : Policy) (e : Effect) (i : Instruction) (k : Knowledge) (s : State)
        (o : Outcome) → CoversBy U k s → OutcomeHolds U s.objects o
        → FollowsIfOk U (learn p e i k) s (perform e i s o)
    learn_follows p (Operates takes names gives) i k s o h w = operate_follows p names gives i k s o
        _ _ (operands_alike (TrueBy U s.objects) takes k.entries s.shape.entries h.entries) h.memo w
    learn_follows p (Moves m) i k s o h w = shape_follows (moved m (memo_number i) k) s
        (moved m (memo_number i) s.shape)
        (moved_alike (TrueBy U s.objects) m (memo_number i) k s.shape h)
    learn_follows p Stops i k s o h w = stop_follows k.memo (top k.entries) s
        (top s.shape.entries) refl
        (top_alike (TrueBy U s.objects) k.entries s.shape.entries h.entries) h.memo
    learn_follows p Raises i k s o h w = tt

    within_follows : (l : Bounds) (n : ℕ) (x : Result Progress Refusal) (s : State) (st : Stepped)
        → FollowsIfOk U x s st → FollowsIfOk U (and_then x (within l n)) s st
    within_follows l n (Err r) s st h = tt
    within_follows l n (Ok q) s st h =
        elim (is_past l n q.after) as (λ b. FollowsIfOk U
        (cond b (Err TooLarge) (Ok q)) s st) [ true ↦ tt | false ↦ h ]

    -- if the checker accepts a step, the step finds what it needs, and the knowledge afterwards
    -- covers the state afterwards
    pub step_follows : (setting : OldStrings) (p : Policy) (l : Bounds) (i : Instruction)
        (k : Knowledge) (s : State) (o : Outcome) → CoversBy U k s → OutcomeHolds U s.objects o
        → FollowsIfOk U (advance setting p l i k) s (step_as setting i s o)
    step_follows setting p l i k s o h w = within_follows l (number_stored (effect_as setting i) i)
        (learn p (effect_as setting i) i k) s (step_as setting i s o)
        (learn_follows p (effect_as setting i) i k s o h w)
