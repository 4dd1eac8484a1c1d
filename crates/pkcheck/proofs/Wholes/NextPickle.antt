-- Where the runs of the next pickle begin after an accepted one, if the memo is kept.
use Rattle.pkmachine.specs.declared.old_strings.OldStrings.{OldStrings}
use Rattle.std.proofs.Common.{◌≡◌, ℕ, List, [], ◌∷◌, ◌++◌, Option, Some, refl, sym, ap, subst, ◌∙◌}
use Rattle.std.proofs.Common.{append-nil}
use Rattle.std.specs.Prelude.{All}
use Rattle.std.proofs.lemmas.Grind.{flat_map-append}
use Rattle.std.proofs.lemmas.List.{map-append}
use Rattle.std.proofs.lemmas.List.Elements.{All-cons, All-head, All-nil, All-tail}
use Rattle.pkops.specs.Limits.{Bounds}
use Rattle.pkops.specs.Spelling.{Instruction}
use Rattle.pkops.specs.declared.Op.{Op}
use Rattle.pkread.specs.Sequence.{IsSequence}
use Rattle.pkmachine.specs.Covers.{Covers, Follows, IsObject, imports_of as imported}
use Rattle.pkmachine.specs.StepLaws.{StepLaws}
use Rattle.pkmachine.specs.Witnesses.{Answered, CoversBy}
use Rattle.pkmachine.specs.Effects.{effect_as}
use Rattle.pkmachine.specs.Knowledge.{Knowledge, Policy, Progress}
use Rattle.pkimport.specs.Import.{Asked}
use Rattle.pkcheck.specs.Listing.{ImportsAreListed, imports_among, permitted_by}
use Rattle.pkmachine.specs.RowRuns.{Behind, Pickle, imports_of_all, next_from, run_row}
use Rattle.pkmachine.specs.RowRuns.{sequences_of}
use Rattle.pkmachine.specs.Runs.{CanCome, Object, Outcome, State, Stepped, WentOn, Stopped, start}
use Rattle.pkmachine.specs.Runs.{step_as}
use Rattle.pkmachine.specs.WholeRuns.{AllListed, Ended, EndedBy, EndsWell, first_outcome, go_on}
use Rattle.pkmachine.specs.WholeRuns.{run_as}
use Rattle.pkcheck.proofs.Wholes.Past.{past, stopped}
use Rattle.pkcheck.proofs.Wholes.Stops.{StopsLast, after_first, stops_nowhere, sequence_last}
use Rattle.pkcheck.proofs.Wholes.Listed.{listed_from, stop_is_last}
use Rattle.pkcheck.proofs.Wholes.Soundness.{sound_from}
use Rattle.pkcheck.specs.RowOfPickles.{begins}
use Rattle.pkmachine.specs.declared.memo.Memo.TheVariants.{Kept}
use Rattle.pkcheck.proofs.Wholes.Origins.{Begins, StartsIn, begins_row}
use Rattle.pkcheck.proofs.Wholes.RunSteps.{same_some, stopped_by_stop}
use Rattle.pkcheck.proofs.Wholes.Walk.{Accepts, accepts_first, accepts_none}

-- a stopped state, cleared for the next pickle
abbrev pub cleared : State → State
cleared t = record t { shape = record { entries = []; memo = t.shape.memo } }

-- what is known there
abbrev pub memo_of : Knowledge → Knowledge
memo_of k = record { entries = []; memo = k.memo }

pub covers_cleared : (U : List Object → ℕ → Type 0) (k : Knowledge) (t : State) → CoversBy U k t
    → CoversBy U (memo_of k) (cleared t)
covers_cleared U k t c = record { entries = tt; memo = c.memo }

-- ---- the runs of a row, pickle by pickle

-- the run of a pickle stopped, and the runs after it reach this state
record StoppedAt (x : Ended) (next : State → Option State) (s : State) : Type 0 where
  result : ℕ
  state : State
  stops : x ≡ EndedBy (Stopped result state)
  comes : next (cleared state) ≡ Some s

next_stops : (x : Ended) (next : State → Option State) (s : State) → next_from x next ≡ Some s
    → StoppedAt x next s
next_stops (EndedBy (Stopped r t)) next s e =
    record { result = r; state = t; stops = refl; comes = e }
next_stops _ next s e = cc

module _ (setting : OldStrings) where
  -- a run of this pickle stops, and the next one begins in this state
  record StopsAt (p : List Instruction) (first s : State) : Type 0 where
    outcomes : List Outcome
    result : ℕ
    state : State
    stops : run_as setting p outcomes first ≡ EndedBy (Stopped result state)
    is : s ≡ cleared state

  -- a run of some pickles and one more, split where the last one begins
  last_of : (ps : List (List Instruction)) (p : List Instruction) (oss : List (List Outcome))
      (first s : State) → run_row setting (ps ++ p ∷ []) oss first ≡ Some s
      → (middle : State)
      × ((before : List (List Outcome)) × (run_row setting ps before first ≡ Some middle))
      × StopsAt p middle s
  last_of [] p [] first s e = cc
  last_of (q ∷ ps) p [] first s e = cc
  last_of [] p (os ∷ oss) first s e =
      let n = next_stops (run_as setting p os first) (run_row setting [] oss) s e in (
        first,
        ([], refl),
        record {
          outcomes = os;
          result = n.result;
          state = n.state;
          stops = n.stops;
          is = same_some s (cleared n.state) (sym n.comes);
        },
      )
  last_of (q ∷ ps) p (os ∷ oss) first s e =
      let n = next_stops (run_as setting q os first) (run_row setting (ps ++ p ∷ []) oss) s e in
      let (middle, (before, comes), last) = last_of ps p oss (cleared n.state) s n.comes in
      let first_runs = ap (λ x. next_from x (run_row setting ps before)) n.stops in
      (middle, (os ∷ before, first_runs ∙ comes), last)

  -- joins the run of some pickles with the run of one more
  with_last : (ps : List (List Instruction)) (p : List Instruction) (oss : List (List Outcome))
      (first middle : State) → All (All CanCome) oss → run_row setting ps oss first ≡ Some middle
      → (os : List Outcome) (r : ℕ) (t : State) → All CanCome os
      → run_as setting p os middle ≡ EndedBy (Stopped r t)
      → (qss : List (List Outcome)) × All (All CanCome) qss ×
      (run_row setting (ps ++ p ∷ []) qss first ≡ Some (cleared t))
  with_last [] p oss first middle can e os r t all g =
      let at : run_as setting p os first ≡ EndedBy (Stopped r t) =
      ap (run_as setting p os) (same_some first middle e) ∙ g in (
        os ∷ [],
        All-cons (All CanCome) os [] all (All-nil (All CanCome)),
        ap (λ x. next_from x (run_row setting [] [])) at,
      )
  with_last (q ∷ ps) p [] first middle can e os r t all g = cc
  with_last (q ∷ ps) p (ws ∷ oss) first middle can e os r t all g =
      let n = next_stops (run_as setting q ws first) (run_row setting ps oss) middle e in
      let m = with_last ps p oss (cleared n.state) middle
      (All-tail (All CanCome) ws oss can) n.comes os r t all g in (
        ws ∷ m.0,
        All-cons (All CanCome) ws m.0 (All-head (All CanCome) ws oss can) m.1,
        ap (λ x. next_from x (run_row setting (ps ++ p ∷ []) m.0)) n.stops ∙ m.2,
      )

-- ---- the end of an accepted pickle

same_end : (r q : ℕ) (s t : State) → EndedBy (Stopped r s) ≡ EndedBy (Stopped q t) → s ≡ t
same_end r q s t e = cc

-- the imports of one more pickle
pub imports_more : (before : List Pickle) (x : Pickle)
    → imports_of_all (before ++ x ∷ []) ≡ imports_of_all before ++ x.imports
imports_more before x = flat_map-append (λ (y : Pickle). y.imports) before (x ∷ [])
    ∙ ap (λ l. imports_of_all before ++ l) (append-nil x.imports)

-- what is known at the end covers each state in which a run stops
stops_on : (q : Progress) (s : State) (st : Stepped) (f : State → Ended) (known : Knowledge) (r : ℕ)
    (t : State) → Follows q s st → ((n : ℕ) (u : State) → st ≡ Stopped n u → q.after ≡ known)
    → ((u : State) → Covers q.after u → f u ≡ EndedBy (Stopped r t) → Covers known t)
    → go_on st f ≡ EndedBy (Stopped r t) → Covers known t
stops_on q s (WentOn u) f known r t g by on h = on u g.0 h
stops_on q s (Stopped n u) f known r t g by on h =
    subst (λ x. Covers x t) (by n u refl) (subst (Covers q.after) (same_end n r u t h) g.2)
stops_on q s _ f known r t g by on h = cc

module _ {setting : OldStrings} {policy : Policy} {limits : Bounds} where
  same_known : {is : List Instruction} {k known : Knowledge} {asked : List (Option Asked)}
      → is ≡ [] → Accepts setting policy limits is k known asked → k ≡ known
  same_known e accepts_none = refl
  same_known e (accepts_first q g h) = cc

  stopped_covered : StepLaws → {is : List Instruction} {k known : Knowledge}
      {asked : List (Option Asked)} (s : State) (os : List Outcome) (r : ℕ) (t : State)
      → StopsLast is → Accepts setting policy limits is k known asked → Covers k s
      → run_as setting is os s ≡ EndedBy (Stopped r t) → Covers known t
  stopped_covered laws s os r t last accepts_none c g = cc
  stopped_covered laws s os r t last (accepts_first {i = i} {is = is} {k = k} q e h) c g =
      let o = first_outcome os in
      stops_on q s (step_as setting i s o) (run_as setting is _) _ r t
      (laws.sound setting policy limits i k q e s o c)
      (λ n u x. same_known (stop_is_last setting i is last
      (stopped_by_stop (effect_as setting i) i n s u o x)) h)
      (λ u d x. stopped_covered laws u _ r t (after_first i is last) h d x) g

-- ---- the next pickle

module _ {setting : OldStrings} {policy : Policy} where
  kept_begins : (before : List Pickle) {k : Knowledge}
      → Begins setting policy (begins Kept before) k → Begins setting policy (Behind before) k
  kept_begins [] h = begins_row h
  kept_begins (x ∷ before) h = h

  kept_next : (before : List Pickle) (x : Pickle) {k : Knowledge}
      → Begins setting policy (Behind (before ++ x ∷ [])) k
      → Begins setting policy (begins Kept (before ++ x ∷ [])) k
  kept_next [] x h = h
  kept_next (y ∷ before) x h = h

module _ (laws : StepLaws) {setting : OldStrings} {policy : Policy} {limits : Bounds}
    (before : List Pickle) {k known : Knowledge}
    (begun : Begins setting policy (begins Kept before) k)
    {limit : Op → ℕ} {p : List Instruction} (sequence : IsSequence limit p)
    {asked : List (Option Asked)} (accepts : Accepts setting policy limits p k known asked) where
  abbrev this : Pickle
  this = record { instructions = p; imports = imports_among asked }

  -- where the pickle begins, and how it stopped
  came : (s : State) → StartsIn setting (Behind (before ++ this ∷ [])) s
      → (first : State) × StartsIn setting (Behind before) first × StopsAt setting p first s
  came s (oss, e) = last_of setting (sequences_of before) p oss start s
      (subst (λ ps. run_row setting ps oss start ≡ Some s)
      (map-append (λ (y : Pickle). y.instructions) before (this ∷ [])) e)

  behind : Begins setting policy (Behind before) k
  behind = kept_begins before begun

  pub begins_next : Begins setting policy (begins Kept (before ++ this ∷ [])) (memo_of known)
  begins_next = kept_next before this (record {
    each = λ s h.
        let (first, starts, w) = came s h in
        subst (Covers (memo_of known)) (sym w.is)
        (covers_cleared IsObject known w.state
        (stopped_covered laws first w.outcomes w.result w.state (sequence_last sequence) accepts
        (behind.each first starts) w.stops));
    some = λ v.
        let (front, end, same, stop, none) = sequence.stops in
        let m = behind.some v in
        let w = past laws v front end (stops_nowhere front none)
        (subst (λ x. Accepts setting policy limits x k known asked) same accepts) m.0 m.2 in
        let (r, t, runs, covered) = stopped w stop in
        let n = with_last setting (sequences_of before) p m.1.0 start m.0 m.1.1 m.1.2 w.outcomes r t
        w.can (subst (λ x. run_as setting x w.outcomes m.0 ≡ EndedBy (Stopped r t)) (sym same)
        runs) in (
          cleared t,
          (
            n.0,
            n.1,
            subst (λ ps. run_row setting ps n.0 start ≡ Some (cleared t))
                (sym (map-append (λ (y : Pickle). y.instructions) before (this ∷ []))) n.2,
          ),
          covers_cleared (Answered v.text) known t covered,
        );
    permitted = λ s h.
        let (first, starts, w) = came s h in
        let ends = subst (EndsWell (permitted_by policy)) w.stops
        (sound_from laws first w.outcomes accepts (behind.each first starts)
        (behind.permitted first starts)) in
        subst (λ x. AllListed (permitted_by policy) (imported x.events)) (sym w.is) ends.1;
    listed = λ s h.
        let (first, starts, w) = came s h in
        let all = subst (ImportsAreListed (imports_of_all before ++ imports_among asked)) w.stops
        (listed_from laws (imports_of_all before) first w.outcomes (sequence_last sequence) accepts
        (behind.each first starts) (behind.listed first starts)) in
        rw (imports_more before this, w.is) all;
  })
