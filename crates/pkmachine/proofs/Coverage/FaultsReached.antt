-- If a knowledge stands for the states in which runs reach an instruction, a refused instruction
-- has the named fault there, and a fault is refused, for its own reason or for an earlier one.
use Rattle.std.proofs.Common.{◌≡◌, ◌≢◌, ℕ, ◌≤◌, List, [], length, Some, Result, Ok, Err, inl, inr}
use Rattle.std.proofs.Common.{refl, sym, ap, subst, ◌∙◌, arith}
use Rattle.pkops.specs.Spelling.{Instruction}
use Rattle.pkops.specs.Limits.{Bounds}
use Rattle.pkops.specs.declared.Reason.TheVariants as reason
use Rattle.pkmachine.specs.Effects.{Effect, effect_as, number_stored, OldStrings}
use Rattle.pkstack.specs.Shape.{Breach, NoMark, NoItem, NoMemo, Odd, Extension, and_then}
use Rattle.pkmachine.specs.Runs.{Text, State, Outcome, Raise, Stepped, Stuck, step_as}
use Rattle.pkimport.specs.Import.{AskedUnknown}
use Rattle.pkmachine.specs.Knowledge.{Known, Knowledge, Policy, Progress, Refusal, Lacks}
use Rattle.pkmachine.specs.Knowledge.{WrongClass, NotText, UnknownImport, OffList, LeftOver}
use Rattle.pkmachine.specs.Knowledge.{NotAscii, TooLarge, reason_of, learn, within, advance}
use Rattle.pkmachine.specs.Covers.{IsObject}
use Rattle.pkmachine.proofs.Coverage.CoversBy.{any_answer, FollowsBy, FollowsIfOk, objects_grow}
use Rattle.pkmachine.specs.Witnesses.{Stands, Word, new_text}
use Rattle.pkmachine.specs.Faults.{Arrivals, everyone, HasWrongReceiver, HasNonText, AsksFor}
use Rattle.pkmachine.specs.Faults.{AsksForTwo, InEachRun, IsStuck, LeavesMoreThere, AsksOtherThan}
use Rattle.pkmachine.specs.Faults.{AsksOffList, GoesPast, HasFaultHere, LeavesMore, RaisesThere}
use Rattle.pkmachine.proofs.Coverage.AcceptedSteps.{learn_follows}
use Rattle.pkmachine.proofs.Coverage.RefusedSteps.{FaultIfErr, learn_refused, step_refused}
use Rattle.pkmachine.specs.Step.{CoveredBy}
use Rattle.pkmachine.proofs.Coverage.OneTextStates.{covered_real, guess, IsGoing, AsksGuess}
use Rattle.pkmachine.proofs.Coverage.OneTextStates.{Exactly, learn_exactly, covered, covers_covered}
use Rattle.pkmachine.proofs.Coverage.ShownFaults.{IsLonger, turn, wrong_learned, non_text_learned}
use Rattle.pkmachine.proofs.Coverage.ShownFaults.{wrong_goes, non_text_goes, leaves_asks}
use Rattle.pkmachine.proofs.Coverage.ShownFaults.{lacks_turn, last_turn, off, differing}
use Rattle.pkmachine.proofs.Coverage.ShownFaults.{longer_differs, within_ok, within_unknown}
use Rattle.pkmachine.proofs.Coverage.ShownFaults.{past_refused, goes_past, left_nothing, loosely}
use Rattle.pkmachine.proofs.Coverage.ShownFaults.{raise_asks, raise_leaves, raise_is, going_on}
use Rattle.pkmachine.proofs.Coverage.StepImports.{asks_once}
use Rattle.pkmachine.proofs.Coverage.Words.{empty, longer}

-- a knowledge stands for all states that it covers
pub stands_for_covered : (setting : OldStrings) (k : Knowledge) → Stands k (CoveredBy setting k)
stands_for_covered setting k = record {
  each = λ s h. h;
  real = λ s h. h.0;
  answers = λ v n. v.utf8;
  some = λ v. (
    covered v.text k,
    (loosely v.text k (covered v.text k) (covers_covered v.text k), covered_real v.text k v.utf8),
    covers_covered v.text k,
  );
}

-- any of the runs may be the witness
pub stands_for_all : (k : Knowledge) (Here : Arrivals) → Stands k Here → Stands k (everyone Here)
stands_for_all k Here h = record {
  each = h.each;
  real = λ s g. g;
  answers = λ v n. tt;
  some = λ v. let m = h.some v in (m.0, h.real m.0 m.1, m.2);
}

module _ (p : Policy) (l : Bounds) (i : Instruction) (k : Knowledge) (Here : Arrivals)
    (h : Stands k Here) where
  abbrev pub effect : Effect
  effect = effect_as Here.setting i

  abbrev number : ℕ
  number = number_stored effect i

  abbrev pub learned : Result Progress Refusal
  learned = learn p effect i k

  abbrev pub advanced : Result Progress Refusal
  advanced = advance Here.setting p l i k

  abbrev pub step_from : State → Outcome → Stepped
  step_from = step_as Here.setting i

  -- the state in which unknown objects are this text, and the step that answers this text
  abbrev at : Word → State
  at v = (h.some v).0

  abbrev answer : Word → Outcome
  answer v = new_text v.text (at v)

  abbrev step_at : Word → Stepped
  step_at v = step_from (at v) (answer v)

  abbrev here : (v : Word) → Here.some (at v)
  here v = (h.some v).1

  abbrev there : (v : Word) → Here.any (at v)
  there v = h.real (at v) (here v)

  some_run : (s : State) × Here.some s
  some_run = (at empty, here empty)

  abbrev ExactlyAt : Word → Result Progress Refusal → Type 0
  ExactlyAt v x = Exactly v.text effect k (at v) (step_at v) x

  abbrev GuessAt : Word → Type 0
  GuessAt v = AsksGuess v.text effect k (at v) (step_at v)

  exactly : (v : Word) → ExactlyAt v learned
  exactly v = learn_exactly v.text p effect i k (at v) (length (at v).objects) (Text v.text)
      (h.some v).2

  abbrev FaultAt : State → Stepped → Result Progress Refusal → Type 0
  FaultAt s st x = FaultIfErr p l number effect s st x

  fault_at : (r : Refusal) → advanced ≡ Err r → (s : State) (o : Outcome) → Here.any s
      → FaultAt s (step_from s o) (Err r)
  fault_at r e s o g = subst (FaultAt s (step_from s o)) e
      (step_refused IsObject p objects_grow l Here.setting i k s o (h.each s g)
      (any_answer s.objects o))

  -- ---- a refused instruction has the fault

  guessed : (v : Word) (x : Result Progress Refusal) → ExactlyAt v x
      → and_then x (within l number) ≡ Err UnknownImport → GuessAt v
  guessed v (Ok q) g e = within_unknown l number q e
  guessed v (Err UnknownImport) g e = g
  guessed v _ g e = cc

  goes_on : (v : Word) (x : Result Progress Refusal) → ExactlyAt v x
      → and_then x (within l number) ≡ Err TooLarge → IsGoing effect (step_at v)
  goes_on v (Ok q) g e = g.0
  goes_on v (Err TooLarge) g e = absurd g
  goes_on v _ g e = cc

  -- two different answers make two different imports
  two_guesses : (u v : Word) → u.text ≢ v.text → (a : GuessAt u) → GuessAt v
      → AsksOtherThan Here i (guess u.text a.0) (guess u.text a.1)
  two_guesses u v ne a b =
      let same : ◌≡◌ {A = Known × Known} (a.0, a.1) (b.0, b.1) = cc in (
        (at u, answer u, here u, h.answers u _, a.4),
        (
          guess v.text b.0,
          guess v.text b.1,
          (at v, answer v, here v, h.answers v _, b.4),
          differing u.text v.text a.0 a.1 b.0 b.1 ne a.3 (λ j. (same j).0) (λ j. (same j).1),
        ),
      )

  asks_guess : (v : Word) (x : Result Progress Refusal) → ExactlyAt v x → (q : Progress)
      → and_then x (within l number) ≡ Ok q → q.import ≡ Some AskedUnknown → GuessAt v
  asks_guess v (Ok r) g q e u =
      g.1 (ap (λ (z : Progress). z.import) (sym (within_ok l number r q e)) ∙ u)
  asks_guess v (Err r) g q e u = cc

  -- an import is listed as unknown only if two runs import different pairs
  pub unknown_exactly : (q : Progress) → advanced ≡ Ok q → q.import ≡ Some AskedUnknown
      → AsksForTwo Here i
  unknown_exactly q e u =
      let a = asks_guess empty learned (exactly empty) q e u in
      let b = asks_guess (longer empty) learned (exactly (longer empty)) q e u in
      (guess [] a.0, guess [] a.1, two_guesses empty (longer empty) (longer_differs []) a b)

  unknown_fault : (v : Word) → IsLonger p v.text → advanced ≡ Err UnknownImport
      → HasFaultHere p l Here i reason.UnknownImport
  unknown_fault v long e =
      let a = guessed v learned (exactly v) e in
      let b = guessed (longer v) learned (exactly (longer v)) e in (
        guess v.text a.0,
        guess v.text a.1,
        two_guesses v (longer v) (longer_differs v.text) a b,
        off p v.text a.0 a.1 (fault_at UnknownImport e (at v) Raise (there v)) long a.3,
      )

  -- every run imports the named pair
  pub off_list : (m n : List ℕ) → advanced ≡ Err (OffList m n) → AsksOffList p Here i m n
  off_list m n e = (
    record { each = λ s g o. (fault_at (OffList m n) e s o g).1; some = some_run },
    (fault_at (OffList m n) e (at empty) Raise (there empty)).0,
  )

  stuck : (b : Breach) → advanced ≡ Err (Lacks b) → InEachRun Here (IsStuck Here.setting i b)
  stuck b e = record { each = λ s g o. fault_at (Lacks b) e s o g; some = some_run }

  -- if the checker refuses an instruction, it has the named fault
  pub has_fault : (v : Word) → IsLonger p v.text → (r : Refusal) → advanced ≡ Err r
      → r ≢ Lacks Extension → HasFaultHere p l Here i (reason_of r)
  has_fault v long (Lacks NoMark) e x = stuck NoMark e
  has_fault v long (Lacks NoItem) e x = stuck NoItem e
  has_fault v long (Lacks (NoMemo n)) e x = stuck (NoMemo n) e
  has_fault v long (Lacks Odd) e x = stuck Odd e
  has_fault v long (Lacks Extension) e x = absurd (x refl)
  has_fault v long WrongClass e x =
      record { each = λ s g. fault_at WrongClass e s Raise g; some = some_run }
  has_fault v long NotText e x =
      record { each = λ s g. fault_at NotText e s Raise g; some = some_run }
  has_fault v long UnknownImport e x = unknown_fault v long e
  has_fault v long (OffList m n) e x = (m, n, off_list m n e)
  has_fault v long LeftOver e x =
      record { each = λ s g o. fault_at LeftOver e s o g; some = some_run }
  has_fault v long NotAscii e x =
      record { each = λ s g o. raise_is s _ (fault_at NotAscii e s o g); some = some_run }
  has_fault v long TooLarge e x = (
    at empty,
    answer empty,
    here empty,
    h.answers empty _,
    goes_past l number effect _ (goes_on empty learned (exactly empty) e)
        (fault_at TooLarge e (at empty) (answer empty) (there empty)),
  )

  -- ---- a fault is refused, for its own reason or for an earlier one

  -- the checker refuses, for a reason of at most this rank
  abbrev pub RefusedBy : ℕ → Type 0
  RefusedBy n = (q : Refusal) × (advanced ≡ Err q) × (turn q ≤ n)

  abbrev By : Refusal → Type 0
  By r = RefusedBy (turn r)

  -- a refusal before the limits are checked
  refuses : (q : Refusal) → learned ≡ Err q → advanced ≡ Err q
  refuses q e = ap (λ x. and_then x (within l number)) e

  pub by_ : (r : Refusal) → ((q : Progress) → learned ≡ Ok q → By r)
      → ((q : Refusal) → learned ≡ Err q → By r) → By r
  by_ r f g = split learned refl where
    split : (x : Result Progress Refusal) → learned ≡ x → By r
    split (Ok q) e = f q e
    split (Err q) e = g q e

  pub follows_ok : (q : Progress) → learned ≡ Ok q → (s : State) (o : Outcome) → Here.any s
      → FollowsBy IsObject q s (step_from s o)
  follows_ok q e s o g = subst (λ x. FollowsIfOk IsObject x s (step_from s o)) e
      (learn_follows IsObject objects_grow p effect i k s o (h.each s g) (any_answer s.objects o))

  fault_of : (q : Refusal) → learned ≡ Err q → (s : State) (o : Outcome) → Here.any s
      → FaultAt s (step_from s o) (Err q)
  fault_of q e s o g = subst (FaultAt s (step_from s o)) e
      (learn_refused IsObject p l number effect i k s o (h.each s g))

  -- what is known of the state in which unknown objects are the empty text
  follows_there : (q : Progress) → learned ≡ Ok q → FollowsBy IsObject q (at empty) (step_at empty)
  follows_there q e = follows_ok q e (at empty) (answer empty) (there empty)

  fault_there : (q : Refusal) → learned ≡ Err q → FaultAt (at empty) (step_at empty) (Err q)
  fault_there q e = fault_of q e (at empty) (answer empty) (there empty)

  exactly_there : (x : Result Progress Refusal) → learned ≡ x → ExactlyAt empty x
  exactly_there x e = subst (ExactlyAt empty) e (exactly empty)

  stuck_lacks : (b : Breach) → step_at empty ≡ Stuck b → (q : Refusal) → learned ≡ Err q
      → FaultAt (at empty) (Stuck b) (Err q) → q ≡ Lacks b
  stuck_lacks b st (Lacks c) e f = cc
  stuck_lacks b st WrongClass e f = wrong_goes effect i (at empty) (answer empty) b f st
  stuck_lacks b st NotText e f = non_text_goes effect i (at empty) (answer empty) b f st
  stuck_lacks b st UnknownImport e f =
      absurd (subst (AsksFor _ _ (at empty)) st (exactly_there (Err UnknownImport) e).4)
  stuck_lacks b st q e f = absurd (assumption)

  pub lacks_refused : (b : Breach) → InEachRun Here (IsStuck Here.setting i b) → By (Lacks b)
  lacks_refused b f =
      let st : step_at empty ≡ Stuck b = f.each (at empty) (there empty) (answer empty) in
      by_ (Lacks b)
      (λ q e. absurd (subst (FollowsBy IsObject q (at empty)) st (follows_there q e)))
      (λ q e.
      let same = stuck_lacks b st q e
      (subst (λ x. FaultAt (at empty) x (Err q)) st (fault_there q e)) in
      (Lacks b, refuses (Lacks b) (e ∙ ap Err same), omega arith))

  pub wrong_refused : InEachRun Here (HasWrongReceiver effect) → By WrongClass
  wrong_refused f = (
    WrongClass,
    refuses WrongClass
        (wrong_learned [] p i k (at empty) (h.some empty).2 effect
        (f.each (at empty) (there empty))),
    omega arith,
  )

  pub text_refused : InEachRun Here (HasNonText effect) → By NotText
  text_refused f =
      elim (non_text_learned [] p i k (at empty) (h.some empty).2 effect
      (f.each (at empty) (there empty))) as (λ _. By NotText) [
        | inl e ↦ (NotText, refuses NotText e, omega arith)
        | inr e ↦ (WrongClass, refuses WrongClass e, omega arith)
      ]

  pub off_refused_by : (m n : List ℕ) (s : State) (o : Outcome) → Here.any s
      → AsksFor m n s (step_from s o) → (q : Refusal) → learned ≡ Err q → By (OffList m n)
  off_refused_by m n s o g a LeftOver e = leaves_asks m n s _ (fault_of LeftOver e s o g) a
  off_refused_by m n s o g a NotAscii e = raise_asks m n s _ (fault_of NotAscii e s o g) a
  off_refused_by m n s o g a TooLarge e = absurd (exactly_there (Err TooLarge) e)
  off_refused_by m n s o g a q e = (q, refuses q e, omega (arith, lacks_turn))

  pub unknown_refused_by : (m n : List ℕ) → AsksOtherThan Here i m n → (q : Refusal)
      → learned ≡ Err q → By UnknownImport
  unknown_refused_by m n (f, others) (OffList c d) e =
      let (x, y, g, differ) = others in
      let first = asks_once c d m n f.0 (step_from f.0 f.1)
      (fault_of (OffList c d) e f.0 f.1 (h.real f.0 f.2)).1 f.4 in
      let second = asks_once c d x y g.0 (step_from g.0 g.1)
      (fault_of (OffList c d) e g.0 g.1 (h.real g.0 g.2)).1 g.4 in
      absurd (differ (sym first.0 ∙ second.0) (sym first.1 ∙ second.1))
  unknown_refused_by m n (f, others) LeftOver e =
      leaves_asks m n f.0 _ (fault_of LeftOver e f.0 f.1 (h.real f.0 f.2)) f.4
  unknown_refused_by m n (f, others) NotAscii e =
      raise_asks m n f.0 _ (fault_of NotAscii e f.0 f.1 (h.real f.0 f.2)) f.4
  unknown_refused_by m n a TooLarge e = absurd (exactly_there (Err TooLarge) e)
  unknown_refused_by m n a q e = (q, refuses q e, omega (arith, lacks_turn))

  left_by : LeavesMore (step_at empty) → (q : Refusal) → learned ≡ Err q → By LeftOver
  left_by w NotAscii e = raise_leaves (at empty) _ (fault_there NotAscii e) w
  left_by w TooLarge e = absurd (exactly_there (Err TooLarge) e)
  left_by w q e = (q, refuses q e, omega (arith, lacks_turn))

  pub left_refused : InEachRun Here (LeavesMoreThere Here.setting i) → By LeftOver
  left_refused f =
      let left = f.each (at empty) (there empty) (answer empty) in
      by_ LeftOver (λ q e. absurd (left_nothing q (at empty) _ (follows_there q e) left))
      (left_by left)

  raise_by : (q : Refusal) → learned ≡ Err q → By NotAscii
  raise_by TooLarge e = absurd (exactly_there (Err TooLarge) e)
  raise_by q e = (q, refuses q e, omega (arith, lacks_turn))

  pub raise_refused : InEachRun Here (RaisesThere Here.setting i) → By NotAscii
  raise_refused f =
      by_ NotAscii
      (λ q e. absurd
      (going_on _ _ (exactly_there (Ok q) e).0 (f.each (at empty) (there empty) (answer empty))))
      raise_by

  pub large_refused : GoesPast l Here i → By TooLarge
  large_refused f =
      by_ TooLarge
      (λ q e. (
        TooLarge,
        ap (λ x. and_then x (within l number)) e
            ∙ past_refused l number q f.0 (step_from f.0 f.1)
            (follows_ok q e f.0 f.1 (h.real f.0 f.2)) f.4,
        omega arith,
      ))
      (λ q e. (q, refuses q e, (let t = last_turn q in omega (arith, t))))
