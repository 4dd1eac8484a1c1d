-- The optimized form has no fault, limits aside, under any policy under which the pickle has none.
use Rattle.std.proofs.Common.{◌≡◌, ◌≢◌, ◌⊎◌, ℕ, ◌+◌, Bool, List, [], ◌∷◌, ◌++◌, length, map, Some}
use Rattle.std.proofs.Common.{Result, Ok, Err, inl, inr, refl, sym, ap, subst, ◌∙◌, arith}
use Rattle.std.proofs.Common.{length-append}
use Rattle.std.specs.Prelude.{Contains}
use Rattle.std.proofs.lemmas.List.{append-nil, map-append}
use Rattle.std.proofs.lemmas.List.Elements.{Contains-append_cases, Contains-append_left}
use Rattle.std.proofs.lemmas.List.Elements.{Contains-append_right}
use Rattle.pkops.specs.Limits.{Bounds}
use Rattle.pkops.specs.Operands.{memo_number}
use Rattle.pkops.specs.Spelling.{Instruction}
use Rattle.pkops.specs.declared.Reason.{Reason}
use Rattle.pkops.specs.declared.Reason.TheVariants as reason
use Rattle.pkread.specs.Framing.{Framed, IsFramed, Piece, Span, frame_spans, contents_of}
use Rattle.pkread.specs.Pieces.{piece_of}
use Rattle.pkmachine.specs.declared.OldStrings.TheVariants.{Unknown}
use Rattle.pkcheck.specs.ButForLimits.{IsFaultlessButForLimits}
use Rattle.pkmachine.specs.Covers.{Adds, imports_of}
use Rattle.pkmachine.specs.Effects.{Effect, Operates, effect_of}
use Rattle.pkcheck.specs.Ends.{SameEnd}
use Rattle.pkmachine.specs.Faults.{AsksAlways, AsksFor, AsksOnce, HasNonText, HasWrongReceiver}
use Rattle.pkmachine.specs.Faults.{InEachRun, IsRaise, IsStuck, LeavesMore, RaisesThere, everyone}
use Rattle.pkmachine.specs.Knowledge.{Policy}
use Rattle.pkimport.specs.Import.{AskedPair}
use Rattle.pkmachine.specs.RowRuns.{Afresh, Arrives, RunsBehind}
use Rattle.pkcheck.specs.RunFaults.{HasRunFault}
use Rattle.pkmachine.specs.Runs.{Event, State, Outcome, Raise, Stepped, WentOn, Raised, Stopped}
use Rattle.pkmachine.specs.Runs.{effect_asks, move_step, perform, start, step}
use Rattle.pkstack.specs.Shape.{Breach, Entry, Shape, moved}
use Rattle.pkmachine.specs.WholeRuns.{Ended, EndedBy, EndsWell, Reached, Sound, first_outcome}
use Rattle.pkmachine.specs.WholeRuns.{go_on, outcomes_after, run}
use Rattle.pkopt.proofs.BothRuns.AlikeSteps.{SameStep, perform_same, with_memo}
use Rattle.pkopt.proofs.BothRuns.Origins.{Counterpart, IsMove}

-- ---- frames: what is framed before others is framed where the list ends with it

contents_front : (at : ℕ) (before : List Piece) (p : Piece) (after : List Piece) (c : Span)
    → Contains (frame_spans at (before ++ p ∷ [])) c
    → Contains (frame_spans at (before ++ p ∷ after)) c
contents_front at [] p after c h =
    let own = contents_of (at + p.length) p.role in
    Contains-append_left own (frame_spans (at + p.length) after) c
    (subst (λ l. Contains l c) (append-nil own) h)
contents_front at (b ∷ bs) p after c h =
    let own = contents_of (at + b.length) b.role in
    let next = at + b.length in
    elim (Contains-append_cases own (frame_spans next (bs ++ p ∷ [])) c h) [
      | inl g ↦ Contains-append_left own (frame_spans next (bs ++ p ∷ after)) c g
      | inr g ↦ Contains-append_right own (frame_spans next (bs ++ p ∷ after)) c
          (contents_front next bs p after c g)
    ]

framed_last : (before : List Piece) (p : Piece) (after : List Piece) → IsFramed before p after
    → IsFramed before p []
framed_last before p after h = record {
  whole =
      elim h.whole [
        | inl g ↦ inl g
        | inr g ↦ inr (λ c has. g c (contents_front 0 before p after c has))
      ];
  frame = λ f c has. h.frame f c (contents_front 0 before p after c has);
  stop = h.stop;
}

-- ---- runs: one that is there on its way goes on from there

through_step : (st : Stepped) (f g : State → Ended) (t : State) (rest : List Instruction)
    → ((u : State) → f u ≡ Reached t → (os : List Outcome) × (g u ≡ run rest os t))
    → go_on st f ≡ Reached t → (os : List Outcome) × (go_on st g ≡ run rest os t)
through_step (WentOn u) f g t rest on e = on u e
through_step st f g t rest on e = absurd cc

same_reached : (s t : State) → Reached s ≡ Reached t → s ≡ t
same_reached s t e = cc

through : (front rest : List Instruction) (os : List Outcome) (s t : State)
    → run front os s ≡ Reached t → (qs : List Outcome) × (run (front ++ rest) os s ≡ run rest qs t)
through [] rest os s t e = (os, ap (run rest os) (same_reached s t e))
through (i ∷ is) rest os s t e =
    let qs = outcomes_after (effect_asks (effect_of i.op)) os in
    through_step (step i s (first_outcome os)) (run is qs) (run (is ++ rest) qs) t rest
    (λ u h. through is rest qs u t h) e

reached_left : (t : State) (end : Ended) → SameEnd end (Reached t)
    → (s : State) × (end ≡ Reached s) × SameEnd (Reached s) (Reached t)
reached_left t (Reached s) h = (s, refl, h)
reached_left t (EndedBy (WentOn s)) h = absurd h
reached_left t end h = absurd h

reached_right : (s : State) (end : Ended) → SameEnd (Reached s) end
    → (t : State) × (end ≡ Reached t) × SameEnd (Reached s) (Reached t)
reached_right s (Reached t) h = (t, refl, h)
reached_right s end h = absurd h

-- ---- steps: moves, and steps in two states that differ in their memos

adds_none : (es added : List Event) (m n : List ℕ) → es ≡ es ++ added
    → imports_of added ≡ (m, n) ∷ [] → ⊥
adds_none es [] m n grown asked = cc
adds_none es (e ∷ added) m n grown asked = let k = ap (λ (l : List Event). length l) grown in
    omega (arith, k, length-append es (e ∷ added))

move_asks : (m n : List ℕ) (s : State) (x : Result (Shape ℕ) Breach) → AsksFor m n s (move_step s x)
    → ⊥
move_asks m n s (Ok shape) h = adds_none s.events h.added m n h.grown h.asked
move_asks m n s (Err b) h = h

move_raises : (s : State) (x : Result (Shape ℕ) Breach) → IsRaise (move_step s x) → ⊥
move_raises s (Ok shape) h = h
move_raises s (Err b) h = h

receiver_same : (e : Effect) (m : List (ℕ × ℕ)) (s : State) → HasWrongReceiver e s
    → HasWrongReceiver e (with_memo m s)
receiver_same (Operates takes names gives) m s h = h
receiver_same e m s h = h

text_same : (e : Effect) (m : List (ℕ × ℕ)) (s : State) → HasNonText e s
    → HasNonText e (with_memo m s)
text_same (Operates takes names gives) m s h = h
text_same e m s h = h

raise_same : (m : List (ℕ × ℕ)) (s : State) (a b : Stepped) → SameStep m s a b → IsRaise a
    → IsRaise b
raise_same m s (Raised t) (Raised u) h g = tt
raise_same m s (Raised t) b h g = absurd h
raise_same m s a b h g = absurd g

asks_same : (module_name name : List ℕ) (m : List (ℕ × ℕ)) (s : State) (a b : Stepped)
    → SameStep m s a b → AsksFor module_name name s a → AsksFor module_name name (with_memo m s) b
asks_same module_name name m s (WentOn t) (WentOn u) h g =
    subst (λ v. Adds (Some (AskedPair module_name name)) s.events v.events) (sym h.1) g
asks_same module_name name m s (Raised t) (Raised u) h g =
    subst (Adds (Some (AskedPair module_name name)) s.events) h.events g
asks_same module_name name m s (WentOn t) b h g = absurd h
asks_same module_name name m s (Raised t) b h g = absurd h
asks_same module_name name m s a b h g = absurd g

-- the same but for the memo
with_its_memo : (s t : State) → SameEnd (Reached s) (Reached t) → with_memo s.shape.memo t ≡ s
with_its_memo s t h =
    ap
    (λ (es : List (Entry ℕ)). with_memo s.shape.memo
    (record t { shape = record t.shape { entries = es } })) (sym h.0)
    ∙ ap (λ os. record { shape = s.shape; objects = os; events = t.events }) (sym h.1.objects)
    ∙ ap (λ es. record { shape = s.shape; objects = s.objects; events = es }) (sym h.1.events)

module _ (list : List ℕ → List ℕ → Bool) (j : Instruction) where
  stuck_unwell : (b : Breach) (s : State) (o : Outcome) (f : State → Ended) → IsStuck Unknown j b s
      → EndsWell list (go_on (step j s o) f) → ⊥
  stuck_unwell b s o f h w = subst (λ st. EndsWell list (go_on st f)) (h o) w

  left_unwell : (st : Stepped) (f : State → Ended) → LeavesMore st → EndsWell list (go_on st f) → ⊥
  left_unwell (Stopped x t) f h w = h w.0
  left_unwell st f h w = absurd h

-- ---- an instruction of the form that stands in the pickle too

module _ (p front : List Instruction) (j : Instruction) (c : Counterpart p front j) where
  -- what holds in each run of the form that gets to it holds in each run of the pickle
  each_back : (P : State → Type 0) → ((m : List (ℕ × ℕ)) (s : State) → P s → P (with_memo m s))
      → InEachRun (everyone (RunsBehind Unknown front)) P
      → InEachRun (everyone (RunsBehind Unknown c.before)) P
  each_back P carries h = record {
    each = λ s gets.
        let r = reached_right s (run front gets.0 start)
        (subst (λ end. SameEnd end (run front gets.0 start)) gets.1 (c.alike gets.0)) in
        subst P (with_its_memo s r.0 r.2) (carries s.shape.memo r.0 (h.each r.0 (gets.0, r.1)));
    some =
        let t = h.some in
        let l = reached_left t.0 (run c.before t.1.0 start)
        (subst (SameEnd (run c.before t.1.0 start)) t.1.1 (c.alike t.1.0)) in
        (l.0, (t.1.0, l.1));
  }

  asks_back : (module_name name : List ℕ) (o : Outcome) (m : List (ℕ × ℕ)) (s : State)
      → AsksFor module_name name s (step j s o) → AsksFor module_name name (with_memo m s)
      (step j (with_memo m s) o)
  asks_back module_name name o m s h = asks_same module_name name m s (step j s o)
      (step j (with_memo m s) o) (perform_same (effect_of j.op) j o m s c.blind) h

  raises_back : (m : List (ℕ × ℕ)) (s : State) → RaisesThere Unknown j s
      → RaisesThere Unknown j (with_memo m s)
  raises_back m s h o = raise_same m s (step j s o) (step j (with_memo m s) o)
      (perform_same (effect_of j.op) j o m s c.blind) (h o)

  once_back : (module_name name : List ℕ) → AsksOnce
      (everyone (RunsBehind Unknown front)) j module_name name
      → AsksOnce (everyone (RunsBehind Unknown c.before)) j module_name name
  once_back module_name name (t, o, gets, can, asks) =
      let l = reached_left t (run c.before gets.0 start)
      (subst (SameEnd (run c.before gets.0 start)) gets.1 (c.alike gets.0)) in
      let there = asks_back module_name name o l.0.shape.memo t asks in (
        l.0,
        o,
        (gets.0, l.1),
        tt,
        subst (λ s. AsksFor module_name name s (step j s o)) (with_its_memo l.0 t l.2) there,
      )

-- ---- each fault

-- the reason names a fault that only an operation has
abbrev IsOfOperation : Reason → Type 0
IsOfOperation reason.WrongClass = Unit {0}
IsOfOperation reason.NotText = Unit {0}
IsOfOperation reason.UnknownImport = Unit {0}
IsOfOperation reason.ImportOffList = Unit {0}
IsOfOperation reason.NotAscii = Unit {0}
IsOfOperation r = ⊥

module _ (p q : List Instruction) (framed : Framed (map piece_of q)) (list : List ℕ → List ℕ → Bool)
    (sound : Sound Unknown q list)
    (find : (front : List Instruction) (j : Instruction) (back : List Instruction)
    → q ≡ front ++ j ∷ back → IsMove j ⊎ Counterpart p front j)
    (policy : Policy) (limits : Bounds)
    (faultless : IsFaultlessButForLimits Unknown policy limits p)
    (front : List Instruction) (j : Instruction) (back : List Instruction)
    (parts : q ≡ front ++ j ∷ back) where
  -- where a run gets to it, the run of the whole ends well
  ends_there : (s : State) → Arrives Unknown Afresh front s
      → (o : Outcome) × (f : State → Ended) × EndsWell list (go_on (step j s o) f)
  ends_there s (os, gets) =
      let t = through front (j ∷ back) os start s gets in
      let qs = outcomes_after (effect_asks (effect_of j.op)) t.0 in (
        first_outcome t.0,
        run back qs,
        subst (EndsWell list) (ap (λ x. run x os start) parts ∙ t.1) (sound os),
      )

  never : (P : State → Type 0)
      → ((s : State) (o : Outcome) (f : State → Ended) → P s → EndsWell list (go_on (step j s o) f)
      → ⊥) → InEachRun (everyone (RunsBehind Unknown front)) P → ⊥
  never P unwell h =
      let t = h.some in
      let w = ends_there t.0 t.1 in
      unwell t.0 w.0 w.1 (h.each t.0 t.1) w.2

  -- a fault of operations is none of a move, and else one of the pickle
  module _ (m : IsMove j) where
    moves : (o : Outcome) (s : State) → step j s o ≡ move_step s (moved m.0 (memo_number j) s.shape)
    moves o s = ap (λ e. perform e j s o) m.1

    no_ask : (module_name name : List ℕ) → AsksOnce (everyone (RunsBehind Unknown front)) j
        module_name name → ⊥
    no_ask module_name name (s, o, gets, can, asks) = move_asks module_name name s
        (moved m.0 (memo_number j) s.shape) (subst (AsksFor module_name name s) (moves o s) asks)

    not_of_move : (r : Reason) → HasRunFault policy limits front
        (everyone (RunsBehind Unknown front)) j r → IsOfOperation r → ⊥
    not_of_move reason.WrongClass f is = rw m.1 at (f.each f.some.0 f.some.1)
    not_of_move reason.NotText f is = rw m.1 at (f.each f.some.0 f.some.1)
    not_of_move reason.UnknownImport (a, b, (once, two), off) is = no_ask a b once
    not_of_move reason.ImportOffList (a, b, (all, off)) is =
        let s = all.some in
        no_ask a b (s.0, Raise, s.1, tt, all.each s.0 s.1 Raise)
    not_of_move reason.NotAscii f is =
        let s = f.some in
        move_raises s.0 (moved m.0 (memo_number j) s.0.shape)
        (subst IsRaise (moves Raise s.0) (f.each s.0 s.1 Raise))
    not_of_move r f is = absurd is

  not_of_counterpart : (c : Counterpart p front j) (r : Reason)
      → HasRunFault policy limits front (everyone (RunsBehind Unknown front)) j r → IsOfOperation r
      → ⊥
  not_of_counterpart c r f is = faultless c.before j c.behind c.parts r
      (λ e. subst IsOfOperation e is) (back_by r f is) where
        back_by : (r : Reason) → HasRunFault policy limits front
            (everyone (RunsBehind Unknown front)) j r → IsOfOperation r
            → HasRunFault policy limits c.before (everyone (RunsBehind Unknown c.before)) j r
        back_by reason.WrongClass f is = each_back p front j c (HasWrongReceiver (effect_of j.op))
            (receiver_same (effect_of j.op)) f
        back_by reason.NotText f is = each_back p front j c (HasNonText (effect_of j.op))
            (text_same (effect_of j.op)) f
        back_by reason.UnknownImport (a, b, (once, (a', b', other, differ)), off) is = (
          a,
          b,
          (once_back p front j c a b once, (a', b', once_back p front j c a' b' other, differ)),
          off,
        )
        back_by reason.ImportOffList (a, b, (all, off)) is = (
          a,
          b,
          (
            each_back p front j c (AsksAlways Unknown j a b)
                (λ m s h o. asks_back p front j c a b o m s (h o)) all,
            off,
          ),
        )
        back_by reason.NotAscii f is = each_back p front j c (RaisesThere Unknown j)
            (raises_back p front j c) f
        back_by r f is = absurd is

  of_operation : (r : Reason) → IsOfOperation r
      → HasRunFault policy limits front (everyone (RunsBehind Unknown front)) j r → ⊥
  of_operation r is f =
      elim (find front j back parts) [
        | inl m ↦ not_of_move m r f is
        | inr c ↦ not_of_counterpart c r f is
      ]

  -- the optimized form has no fault but limits
  pub stays_faultless : (r : Reason) → r ≢ reason.TooLarge
      → HasRunFault policy limits front (everyone (RunsBehind Unknown front)) j r → ⊥
  stays_faultless reason.BrokenFrame n f =
      let laid = ap (map piece_of) parts ∙ map-append piece_of front (j ∷ back) in
      f
      (framed_last (map piece_of front) (piece_of j) (map piece_of back)
      (framed (map piece_of front) (piece_of j) (map piece_of back) laid))
  stays_faultless reason.MissingMark n f = never _ (stuck_unwell list j _) f
  stays_faultless reason.MissingItem n f = never _ (stuck_unwell list j _) f
  stays_faultless (reason.MissingMemo k) n f = never _ (stuck_unwell list j _) f
  stays_faultless reason.OddItems n f = never _ (stuck_unwell list j _) f
  stays_faultless reason.LeftOver n f =
      never _ (λ s o g h w. left_unwell list j (step j s o) g (h o) w) f
  stays_faultless reason.WrongClass n f = of_operation reason.WrongClass tt f
  stays_faultless reason.NotText n f = of_operation reason.NotText tt f
  stays_faultless reason.UnknownImport n f = of_operation reason.UnknownImport tt f
  stays_faultless reason.ImportOffList n f = of_operation reason.ImportOffList tt f
  stays_faultless reason.NotAscii n f = of_operation reason.NotAscii tt f
  stays_faultless reason.TooLarge n f = n refl
  stays_faultless r n f = f
