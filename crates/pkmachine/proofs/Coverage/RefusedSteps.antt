-- If the checker refuses an instruction, every state that it covers has the fault.
use Rattle.pkops.specs.Operands.{memo_number, pair_named}
use Rattle.std.proofs.Common.{◌≡◌, ℕ, Bool, true, false, cond, List, [], ◌∷◌, ◌++◌, map, Option}
use Rattle.std.proofs.Common.{Some, None, Result, Ok, Err, inl, inr, refl, sym, ap, ◌∙◌}
use Rattle.std.proofs.Common.{append_assoc}
use Rattle.std.proofs.lemmas.Bool.{not-true}
use Rattle.pkmachine.specs.Effects.{Effect, Operates, Moves, Stops, Raises, effect_as}
use Rattle.pkmachine.specs.Effects.{number_stored, OldStrings, Takes, Names, OfArgument, OfOperands}
use Rattle.pkmachine.specs.Effects.{Wanted, Gives, Leaves}
use Rattle.pkstack.specs.Shape.{top, Breach, Entry, Shape, Taken, and_then, unless, operands, moved}
use Rattle.pkops.specs.Spelling.{Instruction}
use Rattle.pkmachine.specs.Runs.{argument_named, Text, Plain, Foreign, Object, Import, Did, State}
use Rattle.pkmachine.specs.Runs.{Outcome, Raise, Stepped, WentOn, Raised, Stopped, Stuck, Named}
use Rattle.pkmachine.specs.Runs.{Pair, class_at, texts_named, named, asks, come_of, operated}
use Rattle.pkmachine.specs.Runs.{move_step, stop_step, operate_step, perform, step_as}
use Rattle.pkmachine.specs.Knowledge.{argument_asked, Known, Knowledge, Policy, Progress, Refusal}
use Rattle.pkmachine.specs.Knowledge.{Lacks, WrongClass, NotText, UnknownImport, OffList, LeftOver}
use Rattle.pkmachine.specs.Knowledge.{NotAscii, TooLarge, suits, wrong_first, wrong_receiver}
use Rattle.pkmachine.specs.Knowledge.{permitted, unknown_pair, operands_asked, asked_of, is_past}
use Rattle.pkmachine.specs.Knowledge.{within, left_over, move_learned, stop_learned}
use Rattle.pkmachine.specs.Knowledge.{operate_learned, learn, advance}
use Rattle.pkimport.specs.Import.{Asked, AskedPair}
use Rattle.pkops.specs.Limits.{Bounds}
use Rattle.pkmachine.specs.Covers.{Pointwise, AlikeEntry, Alike, Adds, TrueBy, CoversBy}
use Rattle.pkmachine.proofs.Coverage.CoversBy.{OutcomeHolds, FollowsBy, FollowsIfOk}
use Rattle.pkmachine.proofs.Coverage.CoversBy.{covered_lengths}
use Rattle.pkmachine.specs.Faults.{WrongReceiver, NonText, HasWrongReceiver, HasNonText, IsOff}
use Rattle.pkmachine.specs.Faults.{IsPast, AsksFor, LeavesMore}
use Rattle.pkmachine.specs.AlikeLaws.{SameResult, AlikeTaken, operands_alike, moved_alike}
use Rattle.pkmachine.specs.AlikeLaws.{AlikeTop, top_alike}
use Rattle.pkmachine.proofs.Coverage.AcceptedSteps.{TrueBy-Says, Grows, learn_follows}
use Rattle.pkmachine.proofs.StepParts.Past.{PastBy, past_by}

-- the policy is a list
abbrev pub HasList : Policy → Type 0
HasList None = ⊥
HasList (Some list) = Unit {0}

-- the step exceeds a limit or stores under a number above the limit, or it raises
abbrev pub IsTooLarge : Bounds → ℕ → Stepped → Type 0
IsTooLarge l n (WentOn t) = IsPast l n t
IsTooLarge l n (Stopped r t) = IsPast l n t
IsTooLarge l n (Raised t) = Unit {0}
IsTooLarge l n (Stuck b) = ⊥

-- the step raises and imports nothing
abbrev pub RaisesAlone : State → Stepped → Type 0
RaisesAlone s (Raised t) = Adds None s.events t.events
RaisesAlone s (WentOn t) = ⊥
RaisesAlone s (Stopped r t) = ⊥
RaisesAlone s (Stuck b) = ⊥

-- what a refusal means in one state and for one step from it. An unknown import has no fault in a
-- single state, because it takes two states to show it
abbrev pub Fault : Policy → Bounds → ℕ → Effect → State → Stepped → Refusal → Type 0
Fault p l n e s st (Lacks b) = st ≡ Stuck b
Fault p l n e s st WrongClass = HasWrongReceiver e s
Fault p l n e s st NotText = HasNonText e s
Fault p l n e s st UnknownImport = HasList p
Fault p l n e s st (OffList a b) = IsOff p a b × AsksFor a b s st
Fault p l n e s st LeftOver = LeavesMore st
Fault p l n e s st NotAscii = RaisesAlone s st
Fault p l n e s st TooLarge = IsTooLarge l n st

-- Fault, if the checker refuses the step
abbrev pub FaultIfErr : {A : Type 0} → Policy → Bounds → ℕ → Effect → State → Stepped
    → Result A Refusal → Type 0
FaultIfErr p l n e s st (Ok a) = Unit {0}
FaultIfErr p l n e s st (Err r) = Fault p l n e s st r

-- a step that imports a pair asks for it
module _ (gives : Gives) (i : Instruction) (u : Taken ℕ) (s : State) (m n : List ℕ) where
  adds_pair : (d : Option ℕ) → Adds (Some (AskedPair m n)) s.events
      ((s.events ++ Import m n ∷ []) ++ Did i u.operands d ∷ [])
  adds_pair d = record {
    added = Import m n ∷ Did i u.operands d ∷ [];
    grown = append_assoc s.events (Import m n ∷ []) (Did i u.operands d ∷ []);
    asked = refl;
  }

  asked_asks : (b : Bool) (o : Outcome) → AsksFor m n s
      (come_of b gives i u o (record s { events = s.events ++ Import m n ∷ [] }))
  asked_asks true Raise = adds_pair None
  asked_asks _ _ = adds_pair _

  pub operate_asks : (o : Outcome) → AsksFor m n s (operated (Pair m n) gives i u o s)
  operate_asks o = asked_asks (asks gives) o

abbrev NamesFault : Policy → Names → List Object → List ℕ → Named → Result (Option Asked) Refusal
    → Type 0
NamesFault p names objects ns nm (Ok a) = Unit {0}
NamesFault p names objects ns nm (Err (OffList m n)) = IsOff p m n × (nm ≡ Pair m n)
NamesFault p names objects ns nm (Err NotText) = NonText names objects ns
NamesFault p names objects ns nm (Err UnknownImport) = HasList p
NamesFault p names objects ns nm (Err r) = ⊥

permitted_fault : (p : Policy) (names : Names) (objects : List Object) (ns : List ℕ) (nm : Named)
    (a b : List ℕ) → nm ≡ Pair a b → NamesFault p names objects ns nm (permitted p a b)
permitted_fault None names objects ns nm a b e = tt
permitted_fault (Some list) names objects ns nm a b e =
    elim (list a b) as (λ t. list a b ≡ t → NamesFault (Some list) names objects ns nm
    (cond t (Ok (Some (AskedPair a b))) (Err (OffList a b)))) [
      | true ↦ λ h. tt
      | false ↦ λ h. (h, e)
    ] refl

unknown_fault : (p : Policy) (names : Names) (objects : List Object) (ns : List ℕ) (nm : Named)
    → NamesFault p names objects ns nm (unknown_pair p)
unknown_fault None names objects ns nm = tt
unknown_fault (Some list) names objects ns nm = tt

module _ (U : List Object → ℕ → Type 0) (p : Policy) where
  argument_fault : (objects : List Object) (ns : List ℕ) (q : Option (List ℕ × List ℕ))
      → NamesFault p OfArgument objects ns (argument_named q) (argument_asked p q)
  argument_fault objects ns (Some q) = permitted_fault p OfArgument objects ns _ q.0 q.1 refl
  argument_fault objects ns None = tt

  two_fault : (objects : List Object) (j k : Known) (m n : ℕ) → TrueBy U objects j m
      → TrueBy U objects k n → NamesFault p OfOperands objects (m ∷ n ∷ [])
      (texts_named (class_at objects m) (class_at objects n)) (operands_asked p j k)
  two_fault objects (Some (Text a)) (Some (Text b)) m n h g =
      permitted_fault p OfOperands objects (m ∷ n ∷ [])
      (texts_named (class_at objects m) (class_at objects n)) a b
      (ap (λ v. texts_named v (class_at objects n)) (TrueBy-Says U objects (Some (Text a)) m h)
      ∙ ap (texts_named (Some (Text a))) (TrueBy-Says U objects (Some (Text b)) n g))
  two_fault objects (Some (Plain s)) k m n h g = inl (Plain s, h, refl)
  two_fault objects (Some Foreign) k m n h g = inl (Foreign, h, refl)
  two_fault objects None (Some (Plain s)) m n h g = inr (Plain s, g, refl)
  two_fault objects None (Some Foreign) m n h g = inr (Foreign, g, refl)
  two_fault objects (Some (Text a)) (Some (Plain s)) m n h g = inr (Plain s, g, refl)
  two_fault objects (Some (Text a)) (Some Foreign) m n h g = inr (Foreign, g, refl)
  two_fault objects _ _ m n h g = unknown_fault p OfOperands objects (m ∷ n ∷ [])
      (texts_named (class_at objects m) (class_at objects n))

  names_fault : (names : Names) (i : Instruction) (objects : List Object) (ks : List Known)
      (ns : List ℕ) → Pointwise (TrueBy U objects) ks ns
      → NamesFault p names objects ns (named names i (map (class_at objects) ns))
      (asked_of p names i ks)
  names_fault OfArgument i objects ks ns h = argument_fault objects ns (pair_named i)
  names_fault OfOperands i objects (j ∷ k ∷ []) (m ∷ n ∷ []) h = two_fault objects j k m n h.0 h.1.0
  names_fault OfOperands i objects (j ∷ k ∷ []) [] h = absurd h
  names_fault OfOperands i objects (j ∷ k ∷ []) (m ∷ []) h = absurd h.1
  names_fault OfOperands i objects (j ∷ k ∷ []) (m ∷ n ∷ o ∷ ns) h = absurd h.1.1
  names_fault _ i objects _ ns h = tt

  wanted_fault : (w : Wanted) (objects : List Object) (ks : List Known) (ns : List ℕ)
      → Pointwise (TrueBy U objects) ks ns → wrong_first w ks ≡ true
      → WrongReceiver (Leaves w) objects ns
  wanted_fault w objects (Some c ∷ ks) [] h e = absurd h
  wanted_fault w objects (Some c ∷ ks) (n ∷ ns) h e = (c, h.0, not-true (suits w c) e)
  wanted_fault w objects _ ns h e = cc

  gives_fault : (gives : Gives) (objects : List Object) (ks : List Known) (ns : List ℕ)
      → Pointwise (TrueBy U objects) ks ns → wrong_receiver gives ks ≡ true
      → WrongReceiver gives objects ns
  gives_fault (Leaves w) objects ks ns h e = wanted_fault w objects ks ns h e
  gives_fault _ objects ks ns h e = cc

  module _ (l : Bounds) (number : ℕ) where
    module _ (takes : Takes) (names : Names) (gives : Gives) (i : Instruction) (s : State) where
      abbrev Refused : Stepped → Result Progress Refusal → Type 0
      Refused st x = FaultIfErr p l number (Operates takes names gives) s st x

      module _ (u : Taken ℕ) (e : operands takes s.shape.entries ≡ Ok u) where
        receiver_refused : (st : Stepped) (b : Bool) (x : Result Progress Refusal)
            → (b ≡ true → WrongReceiver gives s.objects u.operands) → Refused st x
            → Refused st (cond b (Err WrongClass) x)
        receiver_refused st false x h g = g
        receiver_refused st true x h g = (u, e, h refl)

        names_refused : (o : Outcome) (nm : Named) (a : Result (Option Asked) Refusal)
            (f : Option Asked → Progress) → NamesFault p names s.objects u.operands nm a
            → Refused (operated nm gives i u o s) (and_then a (λ v. Ok (f v)))
        names_refused o nm (Ok a) f h = tt
        names_refused o nm (Err (OffList a b)) f h =
            (h.0, rw h.1 (operate_asks gives i u s a b o))
        names_refused o nm (Err NotText) f h = (u, e, h)
        names_refused o nm (Err UnknownImport) f h = h
        names_refused o nm _ f h = absurd h

      operate_refused : (k : Knowledge) (o : Outcome) (x : Result (Taken Known) Breach)
          (y : Result (Taken ℕ) Breach) → operands takes s.shape.entries ≡ y
          → SameResult (AlikeTaken (TrueBy U s.objects)) x y
          → Refused (operate_step names gives i o s y) (operate_learned p names gives i k x)
      operate_refused k o (Ok t) (Ok u) e h =
          receiver_refused u e _ (wrong_receiver gives t.operands) _
          (gives_fault gives s.objects t.operands u.operands h.operands)
          (names_refused u e o _ (asked_of p names i t.operands) _
          (names_fault names i s.objects t.operands u.operands h.operands))
      operate_refused k o (Err b) (Err c) e h = ap Stuck (sym h)
      operate_refused k o _ _ e h = absurd h

    shape_refused : (e : Effect) (s : State) (x : Result Knowledge Breach)
        (y : Result (Shape ℕ) Breach) → SameResult (Alike (TrueBy U s.objects)) x y
        → FaultIfErr p l number e s (move_step s y) (move_learned x)
    shape_refused e s (Ok a) y h = tt
    shape_refused e s (Err b) (Err c) h = ap Stuck (sym h)
    shape_refused e s (Err b) (Ok a) h = absurd h

    left_refused : (es : List (Entry Known)) (fs : List (Entry ℕ)) (ms : List (ℕ × Known)) (n : ℕ)
        (e : Effect) (s : State) → Pointwise (AlikeEntry (TrueBy U s.objects)) es fs
        → FaultIfErr {A = Progress} p l number e s (Stopped n
        (record s { shape = record s.shape { entries = fs } }))
        (unless (left_over es) (Ok (record {
          after = record { entries = es; memo = ms };
          import = None;
        })))
    left_refused [] fs ms n e s h = tt
    left_refused (x ∷ es) (y ∷ fs) ms n e s h = λ none. cc
    left_refused (x ∷ es) [] ms n e s h = absurd h

    stop_refused : (e : Effect) (s : State) (ms : List (ℕ × Known))
        (x : Result (Known × List (Entry Known)) Breach) (y : Result (ℕ × List (Entry ℕ)) Breach)
        → SameResult (AlikeTop (TrueBy U s.objects)) x y
        → FaultIfErr p l number e s (stop_step s y) (stop_learned ms x)
    stop_refused e s ms (Ok a) (Ok b) h = left_refused a.1 b.1 ms b.0 e s h.below
    stop_refused e s ms (Err b) (Err c) h = ap Stuck (sym h)
    stop_refused e s ms _ _ h = absurd h

    pub learn_refused : (e : Effect) (i : Instruction) (k : Knowledge) (s : State) (o : Outcome)
        → CoversBy U k s → FaultIfErr p l number e s (perform e i s o) (learn p e i k)
    learn_refused (Operates takes names gives) i k s o h = operate_refused takes names gives i s k o
        _ _ refl (operands_alike (TrueBy U s.objects) takes k.entries s.shape.entries h.entries)
    learn_refused (Moves m) i k s o h = shape_refused (Moves m) s (moved m (memo_number i) k)
        (moved m (memo_number i) s.shape)
        (moved_alike (TrueBy U s.objects) m (memo_number i) k s.shape h)
    learn_refused Stops i k s o h = stop_refused Stops s k.memo (top k.entries)
        (top s.shape.entries) (top_alike (TrueBy U s.objects) k.entries s.shape.entries h.entries)
    learn_refused Raises i k s o h =
        record { added = Did i [] None ∷ []; grown = refl; asked = refl }

    -- a covered state exceeds a limit if the knowledge does
    past_too : (k : Knowledge) (s : State) → CoversBy U k s → PastBy l number k → IsPast l number s
    past_too k s h past =
        let (entries, memo) = covered_lengths U k s h in rw (entries, memo) at past

    more : (q : Progress) (s : State) (st : Stepped) → FollowsBy U q s st → PastBy l number q.after
        → IsTooLarge l number st
    more q s (WentOn t) h past = past_too q.after t h.0 past
    more q s (Stopped x t) h past = past_too q.after t h.2 past
    more q s (Raised t) h past = tt
    more q s (Stuck b) h past = h

    within_refused : (e : Effect) (x : Result Progress Refusal) (s : State) (st : Stepped)
        → FollowsIfOk U x s st → FaultIfErr p l number e s st x
        → FaultIfErr p l number e s st (and_then x (within l number))
    within_refused e (Err r) s st h g = g
    within_refused e (Ok q) s st h g =
        elim (is_past l number q.after) as (λ b. is_past l number q.after ≡ b
        → FaultIfErr {A = Progress} p l number e s st
        (cond b (Err TooLarge) (Ok q))) [
          | true ↦ λ i. more q s st h (past_by l number q.after i)
          | false ↦ λ _. tt
        ] refl

  -- if the checker refuses a step, each state that it covers has the fault, whatever the outcome
  pub step_refused : Grows U → (l : Bounds) (setting : OldStrings) (i : Instruction) (k : Knowledge)
      (s : State) (o : Outcome) → CoversBy U k s → OutcomeHolds U s.objects o
      → FaultIfErr p l (number_stored (effect_as setting i) i) (effect_as setting i) s
      (step_as setting i s o) (advance setting p l i k)
  step_refused grows l setting i k s o h w =
      let number = number_stored (effect_as setting i) i in
      within_refused l number (effect_as setting i) (learn p (effect_as setting i) i k) s
      (step_as setting i s o) (learn_follows U grows p (effect_as setting i) i k s o h w)
      (learn_refused l number (effect_as setting i) i k s o h)
