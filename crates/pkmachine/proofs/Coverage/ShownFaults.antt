-- What one step shows about the faults of its instruction.
use Rattle.std.proofs.Common.{◌≡◌, ◌≢◌, ℕ, ◌<◌, ◌≤◌, Bool, true, false, cond, List, [], ◌∷◌, length}
use Rattle.std.proofs.Common.{Some, None, Result, Ok, Err, ◌⊎◌, inl, inr, refl, sym, ap, subst, ◌∙◌}
use Rattle.std.proofs.Common.{arith}
use Rattle.std.proofs.lemmas.Bool.{false_from_ne_true}
use Rattle.std.proofs.lemmas.List.{append_cancel_left}
use Rattle.std.proofs.lemmas.Option.{slice_get_within}
use Rattle.pkops.specs.Spelling.{Instruction}
use Rattle.pkops.specs.Limits.{Bounds}
use Rattle.pkmachine.specs.Effects.{Effect, Operates, Takes, Names, OfOperands, Wanted, Gives}
use Rattle.pkmachine.specs.Effects.{Leaves}
use Rattle.pkstack.specs.Shape.{Breach, NoMemo, Taken, operands}
use Rattle.pkmachine.specs.Runs.{ObjectClass, Text, Plain, Foreign, Object, State, Outcome, Go}
use Rattle.pkmachine.specs.Runs.{Stepped, WentOn, Raised, Stopped, Stuck, Named, NoImport, Pair}
use Rattle.pkmachine.specs.Runs.{NotTexts, asks, come_of, operated, perform}
use Rattle.pkmachine.specs.Knowledge.{Known, Knowledge, Policy, Progress, Refusal, Lacks}
use Rattle.pkmachine.specs.Knowledge.{WrongClass, NotText, UnknownImport, TooLarge, wrong_first}
use Rattle.pkmachine.specs.Knowledge.{wrong_receiver, text_fault, operands_asked, asked_of}
use Rattle.pkmachine.specs.Knowledge.{operate_learned, learn, is_past, within, reason_of}
use Rattle.pkmachine.specs.Covers.{Pointwise, AlikeEntry, IsObject, imports_of, TrueBy, CoversBy}
use Rattle.pkmachine.proofs.Coverage.CoversBy.{FollowsBy, covered_lengths}
use Rattle.pkmachine.specs.Faults.{IsMade, IsNonText, is_text, WrongReceiver, NonText}
use Rattle.pkmachine.specs.Faults.{HasWrongReceiver, HasNonText, IsOff, AsksFor, LeavesMore, IsPast}
use Rattle.pkmachine.specs.Faults.{GoesOnPast, rank, IsRaise}
use Rattle.pkmachine.specs.AlikeLaws.{SameResult, AlikeTaken, operands_alike, Alike-map}
use Rattle.pkmachine.proofs.Coverage.RefusedSteps.{HasList, IsTooLarge, RaisesAlone}
use Rattle.pkmachine.proofs.Coverage.OneTextStates.{guess, IsGoing}
use Rattle.pkmachine.specs.Witnesses.{Answered}
use Rattle.pkmachine.proofs.Coverage.PermittedImports.{emptied}
use Rattle.pkmachine.proofs.StepParts.Past.{within_past}

-- the text is longer than all listed names
abbrev pub IsLonger : Policy → List ℕ → Type 0
IsLonger None v = Unit {0}
IsLonger (Some list) v = (m n : List ℕ) → list m n ≡ true → (length m < length v)
    × (length n < length v)

-- ---- faults that a knowledge shows, in a state in which unknown objects are answers

module _ (objects : List Object) (n : ℕ) (c d : ObjectClass) where
  same_class : IsMade objects n c → IsMade objects n d → c ≡ d
  same_class h g =
      let same : ◌≡◌ {A = Object} (record { class_of = c; made = true })
      (record { class_of = d; made = true }) = cc in
      λ i. (same i).class_of

not_both : {A : Type 0} (v : List ℕ) (objects : List Object) (n : ℕ) (c : ObjectClass)
    → Answered v objects n → IsMade objects n c → A
not_both v objects n c h g =
    let same : ◌≡◌ {A = Object} (record { class_of = Text v; made = false })
    (record { class_of = c; made = true }) = cc in
    let unlike : false ≡ true = λ i. (same i).made in
    cc

module _ (v : List ℕ) (objects : List Object) where
  wrong_seen : (w : Wanted) (ks : List Known) (ns : List ℕ)
      → Pointwise (TrueBy (Answered v) objects) ks ns → WrongReceiver (Leaves w) objects ns
      → wrong_first w ks ≡ true
  wrong_seen w (Some d ∷ ks) (n ∷ ns) h g = rw (same_class objects n d g.0 h.0 g.1, g.2) refl
  wrong_seen w (None ∷ ks) (n ∷ ns) h g = not_both v objects n g.0 h.0 g.1
  wrong_seen w [] (n ∷ ns) h g = absurd h
  wrong_seen w _ _ h g = absurd g

  receiver_seen : (gives : Gives) (ks : List Known) (ns : List ℕ)
      → Pointwise (TrueBy (Answered v) objects) ks ns → WrongReceiver gives objects ns
      → wrong_receiver gives ks ≡ true
  receiver_seen (Leaves w) ks ns h g = wrong_seen w ks ns h g
  receiver_seen _ ks ns h g = absurd g

  class_seen : (c : ObjectClass) → is_text c ≡ false → text_fault (Some c) ≡ Some NotText
  class_seen (Text m) e = cc
  class_seen _ e = refl

  non_text_seen : (k : Known) (n : ℕ) → TrueBy (Answered v) objects k n → IsNonText objects n
      → text_fault k ≡ Some NotText
  non_text_seen (Some d) n h (c, g, e) = class_seen d (rw (same_class objects n d c h g) e)
  non_text_seen None n h (c, g, e) = not_both v objects n c h g

  second_seen : (p : Policy) (j k : Known) → text_fault k ≡ Some NotText
      → operands_asked p j k ≡ Err NotText
  second_seen p (Some (Plain c)) k e = refl
  second_seen p (Some Foreign) k e = refl
  second_seen p _ k e = rw e refl

  names_seen : (p : Policy) (names : Names) (i : Instruction) (ks : List Known) (ns : List ℕ)
      → Pointwise (TrueBy (Answered v) objects) ks ns → NonText names objects ns
      → asked_of p names i ks ≡ Err NotText
  names_seen p OfOperands i (j ∷ k ∷ []) (m ∷ n ∷ []) h (inl g) =
      rw (non_text_seen j m h.0 g) refl
  names_seen p OfOperands i (j ∷ k ∷ []) (m ∷ n ∷ []) h (inr g) =
      second_seen p j k (non_text_seen k n h.1.0 g)
  names_seen p OfOperands i [] (m ∷ n ∷ []) h g = absurd h
  names_seen p OfOperands i (j ∷ []) (m ∷ n ∷ []) h g = absurd h.1
  names_seen p OfOperands i (j ∷ k ∷ l ∷ ks) (m ∷ n ∷ []) h g = absurd h.1.1
  names_seen p _ i _ _ h g = absurd g

refuses_text : (b : Bool)
    → (cond {A = Result Progress Refusal} b (Err WrongClass) (Err NotText) ≡ Err NotText)
    ⊎ (cond {A = Result Progress Refusal} b (Err WrongClass) (Err NotText) ≡ Err WrongClass)
refuses_text true = inr refl
refuses_text false = inl refl

module _ (v : List ℕ) (p : Policy) (i : Instruction) (k : Knowledge) (s : State)
    (h : CoversBy (Answered v) k s) where
  -- what is known agrees with these operands
  abbrev Agrees : Result (Taken Known) Breach → Taken ℕ → Type 0
  Agrees x t = SameResult (AlikeTaken (TrueBy (Answered v) s.objects)) x (Ok t)

  agrees : (takes : Takes) (t : Taken ℕ) → operands takes s.shape.entries ≡ Ok t
      → Agrees (operands takes k.entries) t
  agrees takes t e =
      subst
      (SameResult (AlikeTaken (TrueBy (Answered v) s.objects)) (operands takes k.entries)) e
      (operands_alike (TrueBy (Answered v) s.objects) takes k.entries s.shape.entries h.entries)

  wrong_at : (names : Names) (gives : Gives) (x : Result (Taken Known) Breach) (t : Taken ℕ)
      → Agrees x t → WrongReceiver gives s.objects t.operands
      → operate_learned p names gives i k x ≡ Err WrongClass
  wrong_at names gives (Ok u) t a g =
      rw (receiver_seen v s.objects gives u.operands t.operands a.operands g) refl
  wrong_at names gives (Err b) t a g = absurd a

  non_text_at : (names : Names) (gives : Gives) (x : Result (Taken Known) Breach) (t : Taken ℕ)
      → Agrees x t → NonText names s.objects t.operands
      → (operate_learned p names gives i k x ≡ Err NotText)
      ⊎ (operate_learned p names gives i k x ≡ Err WrongClass)
  non_text_at names gives (Ok u) t a g =
      rw (names_seen v s.objects p names i u.operands t.operands a.operands g)
      (refuses_text (wrong_receiver gives u.operands))
  non_text_at names gives (Err b) t a g = absurd a

  pub wrong_learned : (e : Effect) → HasWrongReceiver e s → learn p e i k ≡ Err WrongClass
  wrong_learned (Operates takes names gives) (t, e, g) =
      wrong_at names gives _ t (agrees takes t e) g
  wrong_learned _ g = absurd g

  pub non_text_learned : (e : Effect) → HasNonText e s → (learn p e i k ≡ Err NotText)
      ⊎ (learn p e i k ≡ Err WrongClass)
  non_text_learned (Operates takes names gives) (t, e, g) =
      non_text_at names gives _ t (agrees takes t e) g
  non_text_learned _ g = absurd g

-- ---- a step that found its operands is not stuck

come_goes : {A : Type 0} (b : Bool) (gives : Gives) (i : Instruction) (t : Taken ℕ)
    (o : Outcome) (s : State) (c : Breach) → come_of b gives i t o s ≡ Stuck c → A
come_goes true gives i t (Go n d) s c e = cc
come_goes _ gives i t _ s c e = cc

operated_goes : {A : Type 0} (n : Named) (gives : Gives) (i : Instruction) (t : Taken ℕ)
    (o : Outcome) (s : State) (c : Breach) → operated n gives i t o s ≡ Stuck c → A
operated_goes NoImport gives i t o s c e = come_goes (asks gives) gives i t o s c e
operated_goes (Pair m n) gives i t o s c e = come_goes (asks gives) gives i t o _ c e
operated_goes NotTexts gives i t o s c e = cc

pub wrong_goes : {A : Type 0} (e : Effect) (i : Instruction) (s : State) (o : Outcome) (c : Breach)
    → HasWrongReceiver e s → perform e i s o ≡ Stuck c → A
wrong_goes (Operates takes names gives) i s o c (t, e, h) g =
    operated_goes _ gives i t o s c (rw e at g)
wrong_goes _ i s o c h g = absurd h

pub non_text_goes : {A : Type 0} (e : Effect) (i : Instruction) (s : State) (o : Outcome)
    (c : Breach) → HasNonText e s → perform e i s o ≡ Stuck c → A
non_text_goes (Operates takes names gives) i s o c (t, e, h) g =
    operated_goes _ gives i t o s c (rw e at g)
non_text_goes _ i s o c h g = absurd h

-- STOP imports nothing
pub leaves_asks : {A : Type 0} (m n : List ℕ) (s : State) (st : Stepped) → LeavesMore st
    → AsksFor m n s st → A
leaves_asks m n s (Stopped r t) h g = absurd g
leaves_asks m n s _ h g = absurd h

-- a step that only raises imports nothing, is not stuck and leaves nothing
pub raise_asks : {A : Type 0} (m n : List ℕ) (s : State) (st : Stepped) → RaisesAlone s st
    → AsksFor m n s st → A
raise_asks m n s (Raised t) h g =
    let same = append_cancel_left s.events h.added g.added (sym h.grown ∙ g.grown) in
    let none : ◌≡◌ {A = List (List ℕ × List ℕ)} [] ((m, n) ∷ []) =
    sym h.asked ∙ (ap imports_of same ∙ g.asked) in
    cc
raise_asks m n s _ h g = absurd h

pub raise_leaves : {A : Type 0} (s : State) (st : Stepped) → RaisesAlone s st → LeavesMore st → A
raise_leaves s (Raised t) h g = absurd g
raise_leaves s _ h g = absurd h

pub raise_is : (s : State) (st : Stepped) → RaisesAlone s st → IsRaise st
raise_is s (Raised t) h = tt
raise_is s _ h = h

-- a step that goes on does not raise
pub going_on : (e : Effect) (st : Stepped) → IsGoing e st → IsRaise st → ⊥
going_on e (Raised t) h g = h
going_on e _ h g = g

-- ---- the order of refusals

-- the rank of a refusal
abbrev pub turn : Refusal → ℕ
turn r = rank (reason_of r)

pub lacks_turn : (b : Breach) → turn (Lacks b) ≤ 5
lacks_turn (NoMemo n) = omega arith
lacks_turn _ = omega arith

pub last_turn : (r : Refusal) → turn r ≤ 12
last_turn (Lacks b) = let h = lacks_turn b in omega arith
last_turn _ = omega arith

-- ---- different texts

too_long : (u : List ℕ) (a b : Known) → (a ≡ None) ⊎ (b ≡ None) → length (guess u a) < length u
    → length (guess u b) < length u → ⊥
too_long u a b (inl e) f g = omega (arith, rw e at f)
too_long u a b (inr e) f g = omega (arith, rw e at g)

pub off : (p : Policy) (u : List ℕ) (a b : Known) → HasList p → IsLonger p u
    → (a ≡ None) ⊎ (b ≡ None) → IsOff p (guess u a) (guess u b)
off None u a b h long w = h
off (Some list) u a b h long w =
    false_from_ne_true (list (guess u a) (guess u b))
    (λ e. let g = long (guess u a) (guess u b) e in too_long u a b w g.0 g.1)

pub differing : (u v : List ℕ) (a b x y : Known) → u ≢ v → (a ≡ None) ⊎ (b ≡ None) → a ≡ x → b ≡ y
    → guess u a ≡ guess v x → guess u b ≡ guess v y → ⊥
differing u v a b x y ne (inl e) f g h j = ne (rw (← f, e) at h)
differing u v a b x y ne (inr e) f g h j = ne (rw (← g, e) at j)

pub longer_differs : (v : List ℕ) → v ≢ 97 ∷ v
longer_differs v e = let n = ap length e in omega arith

-- ---- the limits

pub within_ok : (l : Bounds) (n : ℕ) (q r : Progress) → within l n q ≡ Ok r → r ≡ q
within_ok l n q r = elim (is_past l n q.after) as (λ b. cond b (Err TooLarge) (Ok q) ≡ Ok r
    → r ≡ q) [ true ↦ λ e. cc | false ↦ λ e. cc ]

pub within_unknown : {A : Type 0} (l : Bounds) (n : ℕ) (q : Progress)
    → within l n q ≡ Err UnknownImport → A
within_unknown {A = A} l n q =
    elim (is_past l n q.after) as (λ b. cond b (Err TooLarge) (Ok q) ≡ Err UnknownImport
    → A) [ true ↦ λ e. cc | false ↦ λ e. cc ]

-- a state that is covered exceeds a limit only if the knowledge does
covered_past : (l : Bounds) (n : ℕ) (q : Progress) (t : State) → CoversBy IsObject q.after t
    → IsPast l n t → within l n q ≡ Err TooLarge
covered_past l n q t h g =
    let (entries, memo) = covered_lengths IsObject q.after t h in
    within_past l n q (rw (← entries, ← memo) at g)

pub past_refused : (l : Bounds) (n : ℕ) (q : Progress) (s : State) (st : Stepped)
    → FollowsBy IsObject q s st → GoesOnPast l n st → within l n q ≡ Err TooLarge
past_refused l n q s (WentOn t) h g = covered_past l n q t h.0 g
past_refused l n q s (Stopped r t) h g = covered_past l n q t h.2 g
past_refused l n q s _ h g = absurd g

-- a step that goes on and is TooLarge exceeds a limit
pub goes_past : (l : Bounds) (n : ℕ) (e : Effect) (st : Stepped) → IsGoing e st → IsTooLarge l n st
    → GoesOnPast l n st
goes_past l n e (Raised t) h g = absurd h
goes_past l n e (Stuck b) h g = absurd h
goes_past l n e _ h g = g

pub left_nothing : (q : Progress) (s : State) (st : Stepped) → FollowsBy IsObject q s st
    → LeavesMore st → ⊥
left_nothing q s (Stopped r t) h g = g
    (emptied q.after.entries t.shape.entries (λ x y. AlikeEntry (TrueBy IsObject t.objects) x y) h.1
    h.2.entries)
left_nothing q s _ h g = g

tells_anything : (v : List ℕ) (objects : List Object) (k : Known) (n : ℕ)
    → TrueBy (Answered v) objects k n → TrueBy IsObject objects k n
tells_anything v objects None n h = slice_get_within objects n _ h
tells_anything v objects (Some c) n h = h

-- a knowledge that covers a state with answers covers it
pub loosely : (v : List ℕ) (k : Knowledge) (s : State) → CoversBy (Answered v) k s
    → CoversBy IsObject k s
loosely v k s h = Alike-map (TrueBy (Answered v) s.objects) (TrueBy IsObject s.objects)
    (tells_anything v s.objects) k s.shape h
