-- What the bill of a list of instructions says of its runs, and what it says of those whose answers
-- are new.
use Rattle.std.proofs.Common.{◌≡◌, ℕ, true, cond, List, [], ◌∷◌, length, Option, Some, None, Result}
use Rattle.std.proofs.Common.{Ok, Err, refl, sym, ap, subst, arith}
use Rattle.std.specs.Prelude.{⊤}
use Rattle.pkops.specs.Spelling.{Instruction}
use Rattle.pkmachine.specs.declared.old_strings.OldStrings.{OldStrings}
use Rattle.pkmachine.specs.Effects.{effect_as, effect_of}
use Rattle.pkcheck.specs.NewRuns.{IfStopped, IfWentOn, InEachOf, Obeys, RowObeys, AnswersNew}
use Rattle.pkmachine.specs.Runs.{Outcome, Raised, State, Stepped, Stopped, Stuck, WentOn}
use Rattle.pkmachine.specs.Runs.{effect_asks, start, step_as}
use Rattle.pkmachine.specs.RowRuns.{Afresh, Beginning, Behind, next_from, run_row, sequences_of}
use Rattle.pkstack.specs.Shape.{Breach, NoItem, and_then}
use Rattle.pkmachine.specs.WholeRuns.{Ended, EndedBy, Reached, first_outcome, go_on, outcomes_after}
use Rattle.pkmachine.specs.WholeRuns.{run_as}
use Rattle.pkload.proofs.Accounts.{none_since}
use Rattle.pkload.proofs.Exactly.{exactly}
use Rattle.pkload.proofs.Readings.{Reading}
use Rattle.pkload.proofs.Steps.{Billed, IfBilled, step_billed}
use Rattle.pkload.specs.Bill.{Bill, all_billed, bill_before, billed, billed_by, next_bill, no_bill}
use Rattle.pkload.specs.Bill.{row_billed}
use Rattle.pkload.specs.Laws.{BillBoundsRuns, EndsBilled}
use Rattle.pkload.specs.declared.tally.Tally.{Tally}
use Rattle.pkload.specs.Tally.{no_tally}
use Rattle.pkload.specs.Weighed.{tally_since}
use Rattle.pkload.proofs.Grown.{IfGrows, all_grow}
use Rattle.pkload.specs.Loading.{EndsSo}

abbrev bill_in : Result Bill Breach → Bill
bill_in (Ok b) = b
bill_in (Err r) = no_bill

abbrev state_in : Option State → State
state_in (Some s) = s
state_in None = start

-- ---- runs, as a reading of the bill means them

module _ (r : Reading) where
  -- the bill, if there is one, says this of a run that raised
  abbrev IfRaises : Tally → Result Bill Breach → Type 0
  IfRaises run (Ok b) = r.Raises run b.tally
  IfRaises run (Err e) = ⊤

  raised_since : (run : Tally) (b : Bill) (x : Result Bill Breach) → r.Counts run b.tally
      → IfGrows b x → IfRaises run x
  raised_since run b (Ok c) h g = r.raises run b.tally c.tally h g.tally
  raised_since run b (Err e) h g = tt

  -- ---- one pickle

  module _ (n : ℕ) where
    -- the bill, if there is one, is that of a run that ended like this
    abbrev pub IfEnds : Result Bill Breach → Ended → Type 0
    IfEnds (Ok b) (Reached s) = Billed r n b s
    IfEnds (Ok b) (EndedBy (Stopped result s)) = Billed r n b s × (b.ended ≡ true)
    IfEnds (Ok b) (EndedBy (Raised s)) = r.Raises (tally_since n s.events) b.tally
    IfEnds (Err e) ended = ⊤
    IfEnds _ _ = ⊥

    raised : (x : Result Bill Breach) (s : State) → IfRaises (tally_since n s.events) x
        → IfEnds x (EndedBy (Raised s))
    raised (Ok b) s h = h
    raised (Err e) s h = tt

    -- nothing is billed behind STOP
    stopped : (is : List Instruction) (b : Bill) (result : ℕ) (s : State) → Billed r n b s
        → b.ended ≡ true → IfEnds (all_billed is b) (EndedBy (Stopped result s))
    stopped [] b result s h e = (h, e)
    stopped (i ∷ is) b result s h e =
        subst (λ q. IfEnds (and_then (cond q (Err NoItem) (billed_by (effect_of i.op) i b))
        (all_billed is)) (EndedBy (Stopped result s))) (sym e) tt

    module _ (setting : OldStrings) where
      after_step : (is : List Instruction) (os : List Outcome) (x : Result Bill Breach)
          (st : Stepped) → IfBilled r n x st → IfWentOn st (Obeys r.May setting is os)
          → ((b : Bill) (s : State) → Billed r n b s → Obeys r.May setting is os s
          → IfEnds (all_billed is b) (run_as setting is os s))
          → IfEnds (and_then x (all_billed is)) (go_on st (run_as setting is os))
      after_step is os (Ok b) (WentOn s) h w on = on b s h w
      after_step is os (Ok b) (Raised s) h w on = raised (all_billed is b) s
          (raised_since (tally_since n s.events) b (all_billed is b) h (all_grow is b))
      after_step is os (Ok b) (Stopped result s) h w on = stopped is b result s h.0 h.1
      after_step is os (Ok b) (Stuck breach) h w on = absurd h
      after_step is os (Err e) st h w on = tt

      along : (is : List Instruction) (os : List Outcome) (b : Bill) (s : State) → Billed r n b s
          → Obeys r.May setting is os s → IfEnds (all_billed is b) (run_as setting is os s)
      along [] os b s h w = h
      along (i ∷ is) os b s h w =
          after_step is (outcomes_after (effect_asks (effect_as setting i)) os) (billed i b)
          (step_as setting i s (first_outcome os))
          (step_billed r n setting i b s (first_outcome os) h w.0) w.1
          (λ c t g v. along is (outcomes_after (effect_asks (effect_as setting i)) os) c t g v)

  -- ---- a row

  -- the next pickle begins
  begun : (n : ℕ) (b : Bill) (t : State) → Billed r n b t
      → Billed r (length t.events) (next_bill b)
      (record t { shape = record { entries = []; memo = t.shape.memo } })
  begun n b t h = record {
    shape = record { entries = tt; memo = h.shape.memo };
    tally = subst (λ run. r.Counts run no_tally) (sym (none_since t.events)) r.none;
    count = h.count;
    behind = omega arith;
  }

  module _ (setting : OldStrings) (c : Bill) (first : State) where
    row_next : (n : ℕ) (ps : List (List Instruction)) (oss : List (List Outcome))
        (x : Result Bill Breach) (e : Ended) → IfEnds n x e
        → IfStopped e (RowObeys r.May setting ps oss)
        → and_then x (λ after. row_billed ps (next_bill after)) ≡ Ok c
        → next_from e (run_row setting ps oss) ≡ Some first
        → ((b : Bill) (s : State) → Billed r (length s.events) b s
        → RowObeys r.May setting ps oss s
        → row_billed ps b ≡ Ok c → run_row setting ps oss s ≡ Some first
        → Billed r (length first.events) c first)
        → Billed r (length first.events) c first
    row_next n ps oss (Ok b) (EndedBy (Stopped result t)) h v e f on =
        on (next_bill b) (record t { shape = record { entries = []; memo = t.shape.memo } })
        (begun n b t h.0) v e f
    row_next n ps oss x ended h v e f on = absurd (cc)

    row_along : (ps : List (List Instruction)) (oss : List (List Outcome)) (b : Bill) (s : State)
        → Billed r (length s.events) b s → RowObeys r.May setting ps oss s
        → row_billed ps b ≡ Ok c
        → run_row setting ps oss s ≡ Some first → Billed r (length first.events) c first
    row_along [] oss b s h w e f =
        subst (λ x. Billed r (length first.events) x first) (ap bill_in e)
        (subst (λ x. Billed r (length x.events) b x) (ap state_in f) h)
    row_along (p ∷ ps) [] b s h w e f = cc
    row_along (p ∷ ps) (os ∷ oss) b s h w e f =
        row_next (length s.events) ps oss (all_billed p b) (run_as setting p os s)
        (along (length s.events) setting p os b s h w.0) w.1 e f
        (λ d t g v q j. row_along ps oss d t g v q j)

  pub started : Billed r 0 no_bill start
  started = record {
    shape = record { entries = tt; memo = tt };
    tally = r.none;
    count = refl;
    behind = omega arith;
  }

  module _ (setting : OldStrings) (is : List Instruction) (bill : Bill) where
    -- the bill is that of the run, given the number of the events before it
    abbrev pub IsBilledRun : ℕ → Ended → Type 0
    IsBilledRun n e = IfEnds n (Ok bill) e

    from_there : (n : ℕ) (b : Bill) (s : State) (os : List Outcome) → Billed r n b s
        → all_billed is b ≡ Ok bill → Obeys r.May setting is os s
        → IsBilledRun n (run_as setting is os s)
    from_there n b s os h e w =
        subst (λ x. IfEnds n x (run_as setting is os s)) e (along n setting is os b s h w)

    behind : (ps : List (List Instruction)) (x : Result Bill Breach)
        → row_billed ps no_bill ≡ x → and_then x (all_billed is) ≡ Ok bill
        → (earlier : List (List Outcome)) (first : State) (os : List Outcome)
        → run_row setting ps earlier start ≡ Some first
        → RowObeys r.May setting ps earlier start → Obeys r.May setting is os first
        → IsBilledRun (length first.events) (run_as setting is os first)
    behind ps (Ok c) q e earlier first os f v w =
        from_there (length first.events) c first os
        (row_along setting c first ps earlier no_bill start started v q f) e w
    behind ps (Err error) q e earlier first os f v w = cc

    -- the bill is that of each run with such outcomes
    pub each_billed : (beginning : Beginning)
        → and_then (bill_before beginning) (all_billed is) ≡ Ok bill
        → InEachOf r.May setting beginning is IsBilledRun
    each_billed Afresh e = λ os w. from_there 0 no_bill start os started e w
    each_billed (Behind ps) e =
        behind (sequences_of ps) (row_billed (sequences_of ps) no_bill) refl e

-- ---- properties of the ends of runs

pub ends_map : (P Q R S : State → Type 0) (e : Ended) → ((s : State) → P s → Q s)
    → ((s : State) → R s → S s) → EndsSo P R e → EndsSo Q S e
ends_map P Q R S (Reached s) f g h = f s h
ends_map P Q R S (EndedBy (Stopped result s)) f g h = f s h
ends_map P Q R S (EndedBy (Raised s)) f g h = g s h
ends_map P Q R S _ f g h = absurd h

pub each_map : (May : Instruction → State → Outcome → Type 0) (P Q : ℕ → Ended → Type 0)
    (setting : OldStrings) (beginning : Beginning) (is : List Instruction)
    → ((n : ℕ) (e : Ended) → P n e → Q n e) → InEachOf May setting beginning is P
    → InEachOf May setting beginning is Q
each_map May P Q setting Afresh is f h = λ os w. f 0 (run_as setting is os start) (h os w)
each_map May P Q setting (Behind ps) is f h = λ earlier first os r v w.
    f (length first.events) (run_as setting is os first) (h earlier first os r v w)

-- ---- runs whose answers are new

ends_billed : (bill : Bill) (n : ℕ) (e : Ended) → IfEnds exactly n (Ok bill) e
    → EndsBilled bill n e
ends_billed bill n (Reached s) h = record { shape = h.shape; tally = h.tally }
ends_billed bill n (EndedBy (Stopped r s)) h = record { shape = h.0.shape; tally = h.0.tally }
ends_billed bill n (EndedBy (Raised s)) h = h
ends_billed bill n _ h = absurd h

pub bill_bounds_runs : BillBoundsRuns
bill_bounds_runs setting beginning is bill e =
    each_map AnswersNew (IsBilledRun exactly setting is bill) (EndsBilled bill) setting beginning is
    (ends_billed bill) (each_billed exactly setting is bill beginning e)
