-- States in which every unknown object is the same text. Each knowledge covers such a state, and a
-- step that the checker accepts goes on there.
use Rattle.pkops.specs.Operands.{memo_number, pair_named}
use Rattle.std.proofs.Common.{◌≡◌, ℕ, Bool, true, false, cond, List, [], ◌∷◌, ◌++◌, length, map}
use Rattle.std.proofs.Common.{Option, Some, None, Result, Ok, Err, ◌⊎◌, inl, inr, refl, sym, ap}
use Rattle.std.proofs.Common.{subst, ◌∙◌, arith, le-ltb}
use Rattle.pkmachine.specs.Effects.{Effect, Operates, Moves, Stops, Raises, Takes, Names, NoName}
use Rattle.pkmachine.specs.Effects.{OfArgument, OfOperands, Gives}
use Rattle.pkstack.specs.Shape.{top, Breach, Entry, Mark, Item, Shape, Taken, and_then, unless}
use Rattle.pkstack.specs.Shape.{operands, moved}
use Rattle.std.specs.Str.{IsUtf8}
use Rattle.std.proofs.lemmas.List.Elements.{All-append, All-cons, All-nil}
use Rattle.pkops.specs.Spelling.{Instruction}
use Rattle.pkmachine.specs.Runs.{argument_named, ObjectClass, AnswersCanBe, CanBe, Text, Object}
use Rattle.pkmachine.specs.Runs.{State, Outcome, Go, Stepped, WentOn, Raised, Stopped, Stuck, Named}
use Rattle.pkmachine.specs.Runs.{NoImport, Pair, NotTexts, class_at, texts_named, of_two, named}
use Rattle.pkmachine.specs.Runs.{asks, come_of, operated, move_step, stop_step, operate_step}
use Rattle.pkmachine.specs.Runs.{perform}
use Rattle.pkmachine.specs.Knowledge.{argument_asked, Known, Knowledge, Policy, Progress, Refusal}
use Rattle.pkmachine.specs.Knowledge.{WrongClass, UnknownImport, OffList, TooLarge, wrong_receiver}
use Rattle.pkmachine.specs.Knowledge.{permitted, unknown_pair, text_fault, operands_asked, asked_of}
use Rattle.pkmachine.specs.Knowledge.{left_over, move_learned, stop_learned, operate_learned, learn}
use Rattle.pkimport.specs.Import.{Asked, AskedPair, AskedUnknown}
use Rattle.pkmachine.specs.Covers.{Pointwise, Alike, TrueBy, CoversBy}
use Rattle.pkmachine.proofs.Coverage.CoversBy.{Choose, OutcomeHolds}
use Rattle.pkmachine.specs.Witnesses.{Answered, new_text}
use Rattle.pkmachine.specs.Faults.{AsksFor}
use Rattle.pkmachine.specs.AlikeLaws.{SameResult, AlikeTaken, operands_alike, moved_alike}
use Rattle.pkmachine.specs.AlikeLaws.{AlikeTop, top_alike}
use Rattle.pkmachine.proofs.Coverage.AcceptedSteps.{Grows, kept_at, new_at, TrueBy-Says, push_alike}
use Rattle.pkmachine.proofs.Coverage.RefusedSteps.{operate_asks}

abbrev pub guess : List ℕ → Known → List ℕ
guess v (Some (Text m)) = m
guess v k = v

-- what is known about the two operands of an import that takes its names from the stack
abbrev pub known_pair : Effect → Knowledge → Option (Known × Known)
known_pair (Operates takes names gives) k =
    elim (operands takes k.entries) as (λ _. Option (Known × Known)) [
      | Ok t ↦ of_two t.operands None (λ a b. Some (a, b))
      | Err b ↦ None
    ]
known_pair e k = None

abbrev pub IsGoing : Effect → Stepped → Type 0
IsGoing e (WentOn t) = Unit {0}
IsGoing e (Stopped x t) = e ≡ Stops
IsGoing e (Raised t) = ⊥
IsGoing e (Stuck b) = ⊥

abbrev IsNamed : Named → Type 0
IsNamed NoImport = Unit {0}
IsNamed (Pair m n) = Unit {0}
IsNamed NotTexts = ⊥

-- the pair that a step imports if the checker does not know it
abbrev pub AsksGuess : List ℕ → Effect → Knowledge → State → Stepped → Type 0
AsksGuess v e k s st = (a : Known) × (b : Known) × (known_pair e k ≡ Some (a, b))
    × ((a ≡ None) ⊎ (b ≡ None)) × AsksFor (guess v a) (guess v b) s st

abbrev pub Exactly : List ℕ → Effect → Knowledge → State → Stepped → Result Progress Refusal
    → Type 0
Exactly v e k s st (Ok q) = IsGoing e st × (q.import ≡ Some AskedUnknown → AsksGuess v e k s st)
Exactly v e k s st (Err UnknownImport) = AsksGuess v e k s st
Exactly v e k s st (Err TooLarge) = ⊥
Exactly v e k s st (Err r) = Unit {0}

module _ (v : List ℕ) where
  pub grows : Grows (Answered v)
  grows objects r n h = kept_at objects r _ n h

  pub new_text_holds : (s : State) → OutcomeHolds (Answered v) s.objects (new_text v s)
  new_text_holds s = subst
      (λ b. Choose b (Answered v s.objects (length s.objects))
      (Answered v (s.objects ++ record { class_of = Text v; made = false } ∷ [])
      (length s.objects))) (sym (le-ltb (length s.objects) (length s.objects) (omega arith)))
      (new_at s.objects _)

  class_of : (objects : List Object) (k : Known) (n : ℕ) → text_fault k ≡ None
      → TrueBy (Answered v) objects k n → class_at objects n ≡ Some (Text (guess v k))
  class_of objects None n e h =
      ap (λ o. elim o as (λ _. Option ObjectClass) [ None ↦ None | Some r ↦ Some r.class_of ]) h
  class_of objects (Some (Text m)) n e h = TrueBy-Says (Answered v) objects (Some (Text m)) n h
  class_of objects _ n e h = cc

  texts_of : (objects : List Object) (j k : Known) (m n : ℕ) → text_fault j ≡ None
      → text_fault k ≡ None → TrueBy (Answered v) objects j m → TrueBy (Answered v) objects k n
      → texts_named (class_at objects m) (class_at objects n) ≡ Pair (guess v j) (guess v k)
  texts_of objects j k m n e f h g = ap (λ c. texts_named c (class_at objects n))
      (class_of objects j m e h) ∙ ap (texts_named (Some (Text (guess v j))))
      (class_of objects k n f g)

  -- the names are two, of which one at least is not known and is this text
  abbrev Guessed : List Known → Named → Type 0
  Guessed ks nm = (j : Known) × (k : Known) × (ks ≡ j ∷ k ∷ [])
      × (nm ≡ Pair (guess v j) (guess v k)) × ((j ≡ None) ⊎ (k ≡ None))

  -- the names of an import, given what is known about the operands
  abbrev NamesExactly : List Known → Named → Result (Option Asked) Refusal → Type 0
  NamesExactly ks nm (Ok a) = IsNamed nm × (a ≡ Some AskedUnknown → Guessed ks nm)
  NamesExactly ks nm (Err UnknownImport) = Guessed ks nm
  NamesExactly ks nm (Err TooLarge) = ⊥
  NamesExactly ks nm (Err r) = Unit {0}

  named_is : (nm : Named) (a b : List ℕ) → nm ≡ Pair a b → IsNamed nm
  named_is nm a b e = rw e tt

  permitted_exactly : (p : Policy) (ks : List Known) (a b : List ℕ) (nm : Named) → nm ≡ Pair a b
      → NamesExactly ks nm (permitted p a b)
  permitted_exactly None ks a b nm e = (named_is nm a b e, λ h. cc)
  permitted_exactly (Some list) ks a b nm e =
      elim (list a b) as (λ t. NamesExactly ks nm
      (cond t (Ok (Some (AskedPair a b))) (Err (OffList a b)))) [
        | true ↦ (named_is nm a b e, λ h. cc)
        | false ↦ tt
      ]

  unknown_exactly : (p : Policy) (j k : Known) (nm : Named) → nm ≡ Pair (guess v j) (guess v k)
      → (j ≡ None) ⊎ (k ≡ None) → NamesExactly (j ∷ k ∷ []) nm (unknown_pair p)
  unknown_exactly None j k nm e h = (named_is nm _ _ e, λ _. (j, k, refl, e, h))
  unknown_exactly (Some list) j k nm e h = (j, k, refl, e, h)

  two_exactly : (p : Policy) (objects : List Object) (j k : Known) (m n : ℕ)
      → TrueBy (Answered v) objects j m → TrueBy (Answered v) objects k n
      → NamesExactly (j ∷ k ∷ []) (texts_named (class_at objects m) (class_at objects n))
      (operands_asked p j k)
  two_exactly p objects (Some (Text a)) (Some (Text b)) m n h g = permitted_exactly p _ a b _
      (texts_of objects (Some (Text a)) (Some (Text b)) m n refl refl h g)
  two_exactly p objects None None m n h g = unknown_exactly p None None _
      (texts_of objects None None m n refl refl h g) (inl refl)
  two_exactly p objects None (Some (Text b)) m n h g = unknown_exactly p None (Some (Text b)) _
      (texts_of objects None (Some (Text b)) m n refl refl h g) (inl refl)
  two_exactly p objects (Some (Text a)) None m n h g = unknown_exactly p (Some (Text a)) None _
      (texts_of objects (Some (Text a)) None m n refl refl h g) (inr refl)
  two_exactly p objects _ _ m n h g = tt

  argument_exactly : (p : Policy) (ks : List Known) (q : Option (List ℕ × List ℕ))
      → NamesExactly ks (argument_named q) (argument_asked p q)
  argument_exactly p ks (Some q) = permitted_exactly p ks q.0 q.1 _ refl
  argument_exactly p ks None = (tt, λ h. cc)

  names_exactly : (p : Policy) (names : Names) (i : Instruction) (objects : List Object)
      (ks : List Known) (ns : List ℕ) → Pointwise (TrueBy (Answered v) objects) ks ns
      → NamesExactly ks (named names i (map (class_at objects) ns)) (asked_of p names i ks)
  names_exactly p NoName i objects ks ns h = (tt, λ e. cc)
  names_exactly p OfArgument i objects ks ns h = argument_exactly p ks (pair_named i)
  names_exactly p OfOperands i objects (j ∷ k ∷ []) (m ∷ n ∷ []) h =
      two_exactly p objects j k m n h.0 h.1.0
  names_exactly p OfOperands i objects [] [] h = (tt, λ e. cc)
  names_exactly p OfOperands i objects (j ∷ []) (m ∷ []) h = (tt, λ e. cc)
  names_exactly p OfOperands i objects (j ∷ k ∷ l ∷ ks) (m ∷ n ∷ o ∷ ns) h = (tt, λ e. cc)
  names_exactly p OfOperands i objects _ _ h = absurd (assumption)

  -- an operation goes on if its names are texts
  asked_goes : (e : Effect) (b : Bool) (gives : Gives) (i : Instruction) (u : Taken ℕ) (n : ℕ)
      (c : ObjectClass) (s : State) → IsGoing e (come_of b gives i u (Go n c) s)
  asked_goes e true gives i u n c s = tt
  asked_goes e false gives i u n c s = tt

  operate_goes : (e : Effect) (nm : Named) (gives : Gives) (i : Instruction) (u : Taken ℕ) (n : ℕ)
      (c : ObjectClass) (s : State) → IsNamed nm → IsGoing e (operated nm gives i u (Go n c) s)
  operate_goes e NoImport gives i u n c s h = asked_goes e (asks gives) gives i u n c s
  operate_goes e (Pair a b) gives i u n c s h = asked_goes e (asks gives) gives i u n c _
  operate_goes e NotTexts gives i u n c s h = absurd h

  module _ (takes : Takes) (names : Names) (gives : Gives) (i : Instruction) (k : Knowledge)
      (s : State) where
    abbrev here : Stepped → Result Progress Refusal → Type 0
    here st x = Exactly v (Operates takes names gives) k s st x

    asks_guess : (t : Taken Known) (u : Taken ℕ) (nm : Named) (o : Outcome)
        → operands takes k.entries ≡ Ok t → Guessed t.operands nm
        → AsksGuess v (Operates takes names gives) k s (operated nm gives i u o s)
    asks_guess t u nm o e (a, b, two, is, one) = (
      a,
      b,
      ap
          (λ r. elim r as (λ _. Option (Known × Known)) [
            | Ok t ↦ of_two t.operands None (λ a b. Some (a, b))
            | Err b ↦ None
          ]) e
          ∙ ap (λ l. of_two l None (λ a b. Some (a, b))) two,
      one,
      rw is (operate_asks gives i u s (guess v a) (guess v b) o),
    )

    names_go : (t : Taken Known) (u : Taken ℕ) (nm : Named) (n : ℕ) (c : ObjectClass)
        (a : Result (Option Asked) Refusal) (after : Knowledge) → operands takes k.entries ≡ Ok t
        → NamesExactly t.operands nm a → here (operated nm gives i u (Go n c) s)
        (and_then a (λ x. Ok (record { after = after; import = x })))
    names_go t u nm n c (Ok a) after e h = (
      operate_goes (Operates takes names gives) nm gives i u n c s h.0,
      λ g. asks_guess t u nm (Go n c) e (h.1 g),
    )
    names_go t u nm n c (Err UnknownImport) after e h = asks_guess t u nm (Go n c) e h
    names_go t u nm n c (Err TooLarge) after e h = h
    names_go t u nm n c _ after e h = tt

    unless_goes : (b : Bool) (st : Stepped) (x : Result Progress Refusal) → here st x
        → here st (cond b (Err WrongClass) x)
    unless_goes true st x h = tt
    unless_goes false st x h = h

    operate_goes_on : (p : Policy) (n : ℕ) (c : ObjectClass) (x : Result (Taken Known) Breach)
        (y : Result (Taken ℕ) Breach) → operands takes k.entries ≡ x
        → SameResult (AlikeTaken (TrueBy (Answered v) s.objects)) x y
        → here (operate_step names gives i (Go n c) s y) (operate_learned p names gives i k x)
    operate_goes_on p n c (Ok t) (Ok u) e h =
        unless_goes (wrong_receiver gives t.operands) _ _
        (names_go t u _ n c (asked_of p names i t.operands) _ e
        (names_exactly p names i s.objects t.operands u.operands h.operands))
    operate_goes_on p n c (Err b) y e h = tt
    operate_goes_on p n c (Ok t) (Err b) e h = absurd h

  shape_goes : (e : Effect) (k : Knowledge) (s : State) (x : Result Knowledge Breach)
      (y : Result (Shape ℕ) Breach) → SameResult (Alike (TrueBy (Answered v) s.objects)) x y
      → Exactly v e k s (move_step s y) (move_learned x)
  shape_goes e k s (Ok a) (Ok b) h = (tt, λ g. cc)
  shape_goes e k s (Err b) y h = tt
  shape_goes e k s (Ok a) (Err b) h = absurd h

  left_goes : (es : List (Entry Known)) (k a : Knowledge) (s t : State) (n : ℕ)
      → Exactly v Stops k s (Stopped n t)
      (unless (left_over es) (Ok (record { after = a; import = None })))
  left_goes [] k a s t n = (refl, λ g. cc)
  left_goes (x ∷ es) k a s t n = tt

  stop_goes : (k : Knowledge) (s : State) (x : Result (Known × List (Entry Known)) Breach)
      (y : Result (ℕ × List (Entry ℕ)) Breach) → SameResult
      (AlikeTop (TrueBy (Answered v) s.objects)) x y
      → Exactly v Stops k s (stop_step s y) (stop_learned k.memo x)
  stop_goes k s (Ok a) (Ok b) h = left_goes a.1 k _ s
      (record s { shape = record s.shape { entries = b.1 } }) b.0
  stop_goes k s (Err b) y h = tt
  stop_goes k s (Ok a) (Err b) h = absurd h

  pub learn_exactly : (p : Policy) (e : Effect) (i : Instruction) (k : Knowledge) (s : State)
      (n : ℕ) (c : ObjectClass) → CoversBy (Answered v) k s
      → Exactly v e k s (perform e i s (Go n c)) (learn p e i k)
  learn_exactly p (Operates takes names gives) i k s n c h = operate_goes_on takes names gives i k s
      p n c (operands takes k.entries) (operands takes s.shape.entries) refl
      (operands_alike (TrueBy (Answered v) s.objects) takes k.entries s.shape.entries h.entries)
  learn_exactly p (Moves m) i k s n c h = shape_goes (Moves m) k s (moved m (memo_number i) k)
      (moved m (memo_number i) s.shape)
      (moved_alike (TrueBy (Answered v) s.objects) m (memo_number i) k s.shape h)
  learn_exactly p Stops i k s n c h = stop_goes k s (top k.entries) (top s.shape.entries)
      (top_alike (TrueBy (Answered v) s.objects) k.entries s.shape.entries h.entries)
  learn_exactly p Raises i k s n c h = tt

  -- each knowledge covers such a state
  record Made (es : List (Entry Known)) (ms : List (ℕ × Known)) : Type 0 where
    objects : List Object
    entries : List (Entry ℕ)
    memo : List (ℕ × ℕ)
    alike : Alike (TrueBy (Answered v) objects) (record { entries = es; memo = ms })
        (record { entries = entries; memo = memo })
    real : IsUtf8 v → AnswersCanBe objects

  abbrev row_of : Known → Object
  row_of None = record { class_of = Text v; made = false }
  row_of (Some c) = record { class_of = c; made = true }

  row_tells : (objects : List Object) (k : Known)
      → TrueBy (Answered v) (objects ++ row_of k ∷ []) k (length objects)
  row_tells objects None = new_at objects _
  row_tells objects (Some c) = new_at objects _

  row_real : IsUtf8 v → (k : Known) → (row_of k).made ≡ false → CanBe (row_of k).class_of
  row_real u None h = u
  row_real u (Some c) h = cc

  one_more : (objects : List Object) (k : Known) → IsUtf8 v → AnswersCanBe objects
      → AnswersCanBe (objects ++ row_of k ∷ [])
  one_more objects k u h = All-append (λ o. o.made ≡ false → CanBe o.class_of) objects
      (row_of k ∷ []) h
      (All-cons (λ o. o.made ≡ false → CanBe o.class_of) (row_of k) [] (row_real u k)
      (All-nil (λ o. o.made ≡ false → CanBe o.class_of)))

  make : (es : List (Entry Known)) (ms : List (ℕ × Known)) → Made es ms
  make [] [] = record {
    objects = [];
    entries = [];
    memo = [];
    alike = record { entries = tt; memo = tt };
    real = λ u. All-nil (λ o. o.made ≡ false → CanBe o.class_of);
  }
  make [] ((n, k) ∷ ms) =
      let m = make [] ms in
      let a = push_alike (Answered v) grows m.objects (row_of k) k [] m.entries ms m.memo
      (row_tells m.objects k) m.alike.entries m.alike.memo in
      record {
        objects = m.objects ++ row_of k ∷ [];
        entries = m.entries;
        memo = (n, length m.objects) ∷ m.memo;
        alike = record { entries = a.entries.1; memo = ((refl, row_tells m.objects k), a.memo) };
        real = λ u. one_more m.objects k u (m.real u);
      }
  make (Mark ∷ es) ms = let m = make es ms in
      record {
        objects = m.objects;
        entries = Mark ∷ m.entries;
        memo = m.memo;
        alike = record { entries = (tt, m.alike.entries); memo = m.alike.memo };
        real = m.real;
      }
  make (Item k ∷ es) ms =
      let m = make es ms in
      record {
        objects = m.objects ++ row_of k ∷ [];
        entries = Item (length m.objects) ∷ m.entries;
        memo = m.memo;
        alike = push_alike (Answered v) grows m.objects (row_of k) k es m.entries ms m.memo
            (row_tells m.objects k) m.alike.entries m.alike.memo;
        real = λ u. one_more m.objects k u (m.real u);
      }

  pub covered : Knowledge → State
  covered k = let m = make k.entries k.memo in
      record {
        shape = record { entries = m.entries; memo = m.memo };
        objects = m.objects;
        events = [];
      }

  pub covers_covered : (k : Knowledge) → CoversBy (Answered v) k (covered k)
  unfolding covered
  covers_covered k = (make k.entries k.memo).alike

  pub covered_real : (k : Knowledge) → IsUtf8 v → AnswersCanBe (covered k).objects
  unfolding covered
  covered_real k u = (make k.entries k.memo).real u
