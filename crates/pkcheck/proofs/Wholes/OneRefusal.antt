-- Two refusals of the same bytes are at one offset, for one reason, with one pair.
use Rattle.std.proofs.Common.{◌≡◌, ◌≢◌, ℕ, suc, ◌+◌, ◌<◌, ◌≤◌, ◌⊎◌, inl, inr, List, [], ◌∷◌, ◌++◌}
use Rattle.std.proofs.Common.{length, Option, Some, None, refl, sym, ap, subst, ◌∙◌, arith}
use Rattle.std.proofs.Common.{length-append, append-nil}
use Rattle.std.specs.Prelude.{get_or}
use Rattle.std.proofs.lemmas.Bool.{cases_lt}
use Rattle.std.proofs.lemmas.List.{append_cancel_left, nil_from_length}
use Rattle.pkops.specs.Limits.{Bounds}
use Rattle.pkops.specs.Payloads.{payload_limit, payload_limit_at}
use Rattle.pkops.specs.Scans.{Begun}
use Rattle.pkops.specs.Spelling.{Instruction, spelling}
use Rattle.pkops.specs.declared.Reason.{Reason}
use Rattle.pkops.specs.declared.Reason.TheVariants as reason
use Rattle.pkread.specs.Admission.{IsAllowedBy}
use Rattle.pkread.specs.Rows.{Refuses, Sight, all_bytes}
use Rattle.pkread.specs.Sequence.{spellings}
use Rattle.pkread.specs.Sequences.{GoesOnBehind, OneFront, SequenceGoesOn}
use Rattle.pkstack.specs.Shape.{Breach, NoMemo}
use Rattle.pkmachine.specs.declared.old_strings.OldStrings.{OldStrings}
use Rattle.pkmachine.specs.Knowledge.{Policy}
use Rattle.pkimport.specs.Import.{Asked, AskedPair, AskedUnknown}
use Rattle.pkmachine.specs.Covers.{Adds}
use Rattle.pkmachine.specs.Faults.{Arrivals, AsksFor, AsksOffList, IsEarlier, IsPairOf, IsStuck}
use Rattle.pkmachine.specs.Faults.{InEachRun, everyone, rank}
use Rattle.pkmachine.specs.RowRuns.{Beginning, Pickle, RunsFrom, sequences_of}
use Rattle.pkmachine.specs.declared.memo.Memo.{Memo}
use Rattle.pkmachine.specs.Runs.{Raise, Raised, State, Stepped, Stopped, Stuck, WentOn, step_as}
use Rattle.pkcheck.specs.OneRefusal.{OneRefusal}
use Rattle.pkcheck.specs.Refused.{HasFirstFault, RefusedFrom, Why, growing, judging, reading}
use Rattle.pkcheck.specs.RowOfPickles.{begins}
use Rattle.pkcheck.specs.RunFaults.{HasRunFault}
use Rattle.pkcheck.proofs.Wholes.Exclusive.{OneAnswer, by_any, consumed, no_row, not_why}
use Rattle.pkcheck.proofs.Wholes.ExclusiveRows.{same_runs}
use Rattle.pkcheck.proofs.Wholes.OneReadRefusal.{one_reason}
use Rattle.pkcheck.proofs.Wholes.Origins.{any_arrives}
use Rattle.pkcheck.proofs.Wholes.RefusedBehind.{all_good, parts}
use Rattle.pkcheck.proofs.Wholes.SameImports.{from_events}

-- ---- two faults of one instruction

-- the reason with this position in the order, of those that have one to themselves
abbrev reason_at : ℕ → Reason
reason_at place = get_or
    (reason.TooLarge ∷ reason.BrokenFrame ∷ reason.MissingMark ∷ reason.MissingItem
    ∷ reason.TooLarge ∷ reason.OddItems ∷ reason.WrongClass ∷ reason.NotText
    ∷ reason.UnknownImport ∷ reason.ImportOffList ∷ reason.LeftOver ∷ reason.NotAscii ∷ [])
    place reason.TooLarge

-- a reason that names a fault is the one with its position, or that of a missing memo entry
abbrev Placed : Reason → Type 0
Placed r =
    ((r ≡ reason_at (rank r)) × (rank r ≢ 4))
    ⊎ ((number : ℕ) × (r ≡ reason.MissingMemo number))

module _ (setting : OldStrings) (b : Beginning) (policy : Policy) (limits : Bounds)
    (before : List Instruction) (i : Instruction) where
  abbrev here : Arrivals
  here = RunsFrom setting b before

  abbrev Fault : Reason → Type 0
  Fault = HasRunFault policy limits before here i

  placed : (r : Reason) → Fault r → Placed r
  placed reason.BrokenFrame f = inl (refl, λ e. cc)
  placed reason.MissingMark f = inl (refl, λ e. cc)
  placed reason.MissingItem f = inl (refl, λ e. cc)
  placed (reason.MissingMemo number) f = inr (number, refl)
  placed reason.OddItems f = inl (refl, λ e. cc)
  placed reason.WrongClass f = inl (refl, λ e. cc)
  placed reason.NotText f = inl (refl, λ e. cc)
  placed reason.UnknownImport f = inl (refl, λ e. cc)
  placed reason.ImportOffList f = inl (refl, λ e. cc)
  placed reason.LeftOver f = inl (refl, λ e. cc)
  placed reason.NotAscii f = inl (refl, λ e. cc)
  placed reason.TooLarge f = inl (refl, λ e. cc)
  placed _ f = absurd f

  -- a run that arrives here
  arrival : (P : State → Type 0) → InEachRun here P → (s : State) × here.any s
  arrival P h = (h.some.0, any_arrives setting b before h.some.0 h.some.1)

  one_number : (n m : ℕ) → Fault (reason.MissingMemo n) → Fault (reason.MissingMemo m) → n ≡ m
  one_number n m f g =
      let (s, there) = arrival (IsStuck setting i (NoMemo n)) f in
      let first = f.each s there Raise in
      let second = g.each s there Raise in
      let same : Stuck (NoMemo n) ≡ Stuck (NoMemo m) = sym first ∙ second in
      cc

  one_placed : (r s : Reason) → rank r ≡ rank s → Fault r → Fault s → Placed r → Placed s → r ≡ s
  one_placed r s e f g (inl h) (inl k) = h.0 ∙ ap reason_at e ∙ sym k.0
  one_placed r s e f g (inr h) (inr k) =
      h.1 ∙ ap reason.MissingMemo (one_number h.0 k.0 (subst Fault h.1 f) (subst Fault k.1 g))
      ∙ sym k.1
  one_placed r s e f g (inl h) (inr k) = absurd (h.1 (e ∙ ap rank k.1))
  one_placed r s e f g (inr h) (inl k) = absurd (k.1 (sym e ∙ ap rank h.1))

  -- two first faults are one
  first_reason : (r s : Reason) → Fault r → Fault s
      → ((earlier : Reason) → IsEarlier earlier r
      → HasRunFault policy limits before (everyone here) i earlier → ⊥)
      → ((earlier : Reason) → IsEarlier earlier s
      → HasRunFault policy limits before (everyone here) i earlier → ⊥)
      → r ≡ s
  first_reason r s f g first second = elim (cases_lt (rank r) (rank s)) [
    | inl lt ↦ absurd (second r lt (by_any setting b policy limits before i r f))
    | inr le ↦ elim (cases_lt (rank s) (rank r)) [
      | inl lt ↦ absurd (first s lt (by_any setting b policy limits before i s g))
      | inr more ↦ one_placed r s (omega (arith, le, more)) f g (placed r f) (placed s g)
    ]
  ]

  one_asked : (m n p q : List ℕ) (s : State) (step : Stepped) → AsksFor m n s step
      → AsksFor p q s step → Some (AskedPair m n) ≡ Some (AskedPair p q)
  one_asked m n p q s (WentOn t) h k = from_events (Some (AskedPair m n)) (Some (AskedPair p q))
      s.events t.events (λ e. cc) (λ e. cc) h k
  one_asked m n p q s (Raised t) h k = from_events (Some (AskedPair m n)) (Some (AskedPair p q))
      s.events t.events (λ e. cc) (λ e. cc) h k
  one_asked m n p q s (Stopped o t) h k = absurd h
  one_asked m n p q s (Stuck c) h k = absurd h

  one_off : (x y : Option Asked) → IsPairOf policy here i reason.ImportOffList x
      → IsPairOf policy here i reason.ImportOffList y → x ≡ y
  one_off (Some (AskedPair m n)) (Some (AskedPair p q)) h k =
      let (s, there) = arrival _ h.0 in
      one_asked m n p q s (step_as setting i s Raise) (h.0.each s there Raise)
      (k.0.each s there Raise)
  one_off None y h k = absurd h
  one_off (Some AskedUnknown) y h k = absurd h
  one_off (Some (AskedPair m n)) None h k = absurd k
  one_off (Some (AskedPair m n)) (Some AskedUnknown) h k = absurd k

  one_pair : (r : Reason) (x y : Option Asked) → IsPairOf policy here i r x
      → IsPairOf policy here i r y → x ≡ y
  one_pair reason.ImportOffList x y h k = one_off x y h k
  one_pair _ x y h k = h ∙ sym k

-- ---- two refusals after the same instructions

module _ (one : OneAnswer) (nothing : (limit : ℕ) → Begun limit []) (front : OneFront)
    (goes : SequenceGoesOn) (setting : OldStrings) (b : Beginning) (policy : Policy)
    (limits : Bounds) (before : List Instruction) (tail : List ℕ) (at : ℕ)
    (few : at + length tail ≤ all_bytes) where
  abbrev At : Sight → Sight → Reason → Option Asked → Type 0
  At here new r pair = Why setting b policy limits before here new at r pair

  -- what is read whole isn't refused while reading
  not_read : (here new there after : Sight) (r s : Reason) (x y : Option Asked)
      → here.left ≡ Some tail → there.left ≡ Some tail → r ≢ reason.Source
      → r ≢ reason.OutOfMemory
      → (bytes : List ℕ) (taken : ℕ)
      → Refuses (payload_limit_at limits bytes) here new bytes at taken r
      → HasFirstFault setting b policy limits before there after s y → ⊥
  not_read here new there after r s x y is was n m bytes taken h k =
      let c = consumed there tail (spelling k.instruction) after was k.bytes in
      let long = ap length c.2 in
      no_row one nothing limits here new tail c.0 k.instruction k.allowed is c.2 bytes at taken
      (omega (arith, few, long, length-append (spelling k.instruction) c.0)) h.taken r n m h.row

  one_why : (here new there after : Sight) (r s : Reason) (x y : Option Asked)
      → here.left ≡ Some tail → there.left ≡ Some tail
      → r ≢ reason.Source → r ≢ reason.OutOfMemory → s ≢ reason.Source → s ≢ reason.OutOfMemory
      → At here new r x → At there after s y → (r ≡ s) × (x ≡ y)
  one_why here new there after r s x y is was n m k l (reading h) (reading g) = (
    one_reason one nothing limits tail at few here new there after h.bytes g.bytes h.taken g.taken
        r s is n m h.shown was k l g.shown,
    h.none ∙ sym g.none,
  )
  one_why here new there after r s x y is was n m k l (reading h) (judging g) =
      absurd (not_read here new there after r s x y is was n m h.bytes h.taken h.shown g)
  one_why here new there after r s x y is was n m k l (judging h) (reading g) =
      absurd (not_read there after here new s r y x was is k l g.bytes g.taken g.shown h)
  one_why here new there after r s x y is was n m k l (judging h) (judging g) =
      let c = consumed here tail (spelling h.instruction) new is h.bytes in
      let d = consumed there tail (spelling g.instruction) after was g.bytes in
      let same = front h.instruction g.instruction c.0 d.0 h.allowed.good g.allowed.good
      (sym c.2 ∙ d.2) in
      judged (sym same.0) g.fault g.first g.asks
    where
      judged : g.instruction ≡ h.instruction
          → HasRunFault policy limits before (RunsFrom setting b before) g.instruction s
          → ((earlier : Reason) → IsEarlier earlier s
          → HasRunFault policy limits before (everyone (RunsFrom setting b before)) g.instruction
          earlier → ⊥)
          → IsPairOf policy (RunsFrom setting b before) g.instruction s y → (r ≡ s) × (x ≡ y)
      judged e f first asks =
          let i = h.instruction in
          let f' = subst (λ j. HasRunFault policy limits before (RunsFrom setting b before) j s) e
          f in
          let first' : (earlier : Reason) → IsEarlier earlier s
          → HasRunFault policy limits before (everyone (RunsFrom setting b before)) i earlier → ⊥
          = λ z before_it at_it. first z before_it
          (subst (λ j. HasRunFault policy limits before (everyone (RunsFrom setting b before)) j z)
          (sym e) at_it) in
          let asks' = subst (λ j. IsPairOf policy (RunsFrom setting b before) j s y) e asks in
          let reasons = first_reason setting b policy limits before i r s h.fault f' h.first first'
          in (
            reasons,
            one_pair setting b policy limits before i r x y h.asks
                (subst (λ z. IsPairOf policy (RunsFrom setting b before) i z y) (sym reasons)
                asks'),
          )
  one_why here new there after r s x y is was n m k l (growing h) g = absurd (m h.memory)
  one_why here new there after r s x y is was n m k l (reading h) (growing g) =
      absurd (l g.memory)
  one_why here new there after r s x y is was n m k l (judging h) (growing g) =
      absurd (l g.memory)

-- ---- two refusals

-- of two lists that begin with each other neither is longer
one_list : (p q : List Instruction) → ((behind : List Instruction) × (q ≡ p ++ behind))
    → ((behind : List Instruction) × (p ≡ q ++ behind)) → q ≡ p
one_list p q (u, e) (v, f) =
    let long = ap length e in
    let longer = ap length f in
    let none = nil_from_length u
    (omega (arith, long, longer, length-append p u, length-append q v)) in
    e ∙ ap (λ z. p ++ z) none ∙ append-nil p

module _ (one : OneAnswer) (nothing : (limit : ℕ) → Begun limit []) (front : OneFront)
    (goes : SequenceGoesOn) {from : ℕ} {setting : OldStrings} {b : Beginning} {policy : Policy}
    {limits : Bounds} (bytes : List ℕ) (few : from + length bytes ≤ all_bytes) where
  -- the second comes after the instructions before the first
  begins_with : {old new other after : Sight} {at place : ℕ} {r s : Reason} {x y : Option Asked}
      → old.left ≡ Some bytes → other.left ≡ Some bytes → s ≢ reason.Source
      → s ≢ reason.OutOfMemory
      → (first : RefusedFrom from setting b policy limits old new at r x)
      → (second : RefusedFrom from setting b policy limits other after place s y)
      → (behind : List Instruction) × (second.instructions ≡ first.instructions ++ behind)
  begins_with {old = old} {other = other} known same k l first second =
      let p = first.instructions in
      let q = second.instructions in
      let a = consumed old bytes (spellings p) first.here known first.bytes in
      let c = consumed other bytes (spellings q) second.here same second.bytes in
      let long = ap length a.2 in
      by_part c.0 a.0 c.1 (omega (arith, few, long, length-append (spellings p) a.0))
      (parts front p q a.0 c.0 (all_good limits p first.admitted)
      (all_good limits q second.admitted) (sym a.2 ∙ c.2))
    where
      by_part : (tail rest : List ℕ) → second.here.left ≡ Some tail
          → from + length (spellings first.instructions) ≤ all_bytes
          → GoesOnBehind first.instructions second.instructions rest tail
          ⊎ ((behind : List Instruction) × (second.instructions ≡ first.instructions ++ behind))
          → (behind : List Instruction) × (second.instructions ≡ first.instructions ++ behind)
      by_part tail rest is fits (inl g) = absurd (not_why one nothing front goes limits g
          first.admitted (λ q i more e f. first.faultless q i more e _ f) from fits second.place is
          k l second.why)
      by_part tail rest is fits (inr g) = g

-- two refusals in runs that begin alike
module _ (one : OneAnswer) (nothing : (limit : ℕ) → Begun limit []) (front : OneFront)
    (goes : SequenceGoesOn) (from : ℕ) (setting : OldStrings) (b : Beginning) (policy : Policy)
    (limits : Bounds) (bytes : List ℕ) (old new other after : Sight) (at place : ℕ) (r s : Reason)
    (x y : Option Asked) where
  same_refusal : old.left ≡ Some bytes → other.left ≡ Some bytes → from + length bytes ≤ all_bytes
      → RefusedFrom from setting b policy limits old new at r x
      → RefusedFrom from setting b policy limits other after place s y → r ≢ reason.Source
      → r ≢ reason.OutOfMemory → s ≢ reason.Source → s ≢ reason.OutOfMemory
      → (at ≡ place) × (r ≡ s) × (x ≡ y)
  same_refusal known same few first second n m k l =
      let p = first.instructions in
      let q = second.instructions in
      let list = one_list p q
      (begins_with one nothing front goes bytes few known same k l first second)
      (begins_with one nothing front goes bytes few same known n m second first) in
      let a = consumed old bytes (spellings p) first.here known first.bytes in
      let c = consumed other bytes (spellings q) second.here same second.bytes in
      let spelled : spellings q ≡ spellings p = ap spellings list in
      let rests : c.0 ≡ a.0 = append_cancel_left (spellings p) c.0 a.0
      (ap (λ z. z ++ c.0) (sym spelled) ∙ sym c.2 ∙ a.2) in
      let there : place ≡ at = second.place ∙ ap (λ z. from + length z) spelled
      ∙ sym first.place in
      let long = ap length a.2 in
      let place_is = first.place in
      let why = subst (λ z. Why setting b policy limits z second.here after place s y) list
      second.why in
      let there_why = subst (λ z. Why setting b policy limits p second.here after z s y) there
      why in
      let both = one_why one nothing front goes setting b policy limits p a.0 at
      (omega (arith, few, long, place_is, length-append (spellings p) a.0)) first.here new
      second.here after r s x y a.1 (c.1 ∙ ap Some rests) n m k l first.why there_why in
      (sym there, both.0, both.1)

-- ---- after the same pickles

module _ (memo : Memo) (before others : List Pickle)
    (same : sequences_of before ≡ sequences_of others) (setting : OldStrings) (policy : Policy)
    (limits : Bounds) where
  why_alike : (p : List Instruction) (here new : Sight) (at : ℕ) (r : Reason) (x : Option Asked)
      → Why setting (begins memo others) policy limits p here new at r x
      → Why setting (begins memo before) policy limits p here new at r x
  why_alike p here new at r x (reading h) = reading h
  why_alike p here new at r x (judging h) = judging (record {
    instruction = h.instruction;
    allowed = h.allowed;
    bytes = h.bytes;
    fault = same_runs setting p (λ A. HasRunFault policy limits p A h.instruction r) memo others
        before (sym same) h.fault;
    first = λ earlier lt f. h.first earlier lt
        (same_runs setting p (λ A. HasRunFault policy limits p (everyone A) h.instruction earlier)
        memo before others same f);
    asks = same_runs setting p (λ A. IsPairOf policy A h.instruction r x) memo others before
        (sym same) h.asks;
  })
  why_alike p here new at r x (growing h) = growing h

  refused_alike : (from : ℕ) (old new : Sight) (at : ℕ) (r : Reason) (x : Option Asked)
      → RefusedFrom from setting (begins memo others) policy limits old new at r x
      → RefusedFrom from setting (begins memo before) policy limits old new at r x
  refused_alike from old new at r x h = record {
    instructions = h.instructions;
    admitted = h.admitted;
    goes_on = h.goes_on;
    here = h.here;
    bytes = h.bytes;
    place = h.place;
    framed = h.framed;
    faultless = λ q i more e z f. h.faultless q i more e z
        (same_runs setting q (λ A. HasRunFault policy limits q (everyone A) i z) memo before others
        same f);
    why = why_alike h.instructions h.here new at r x h.why;
  }

pub one_refusal : OneAnswer → ((limit : ℕ) → Begun limit []) → OneFront → SequenceGoesOn
    → OneRefusal
one_refusal one nothing front goes from loading before others policy limits bytes old new other
    after at place r s x y known same few alike first second n m k l =
    same_refusal one nothing front goes from loading.old_strings (begins loading.memo before) policy
    limits bytes old new other after at place r s x y known same few first
    (refused_alike loading.memo before others alike loading.old_strings policy limits from other
    after place s y second) n m k l
