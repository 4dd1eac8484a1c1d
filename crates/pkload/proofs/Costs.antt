-- A check that ends because a pickle exceeds a limit.
use Rattle.std.proofs.Common.{◌≡◌, ◌+◌, ◌<◌, ℕ, false, List, [], ◌∷◌, ◌++◌, length, append-nil}
use Rattle.std.proofs.Common.{append_assoc, Option, None, Some, refl, sym, ap, subst, Result, Ok}
use Rattle.std.proofs.Common.{◌∙◌, ◌≤◌, ◌^◌, arith, Err}
use Rattle.std.proofs.lemmas.Grind.{flat_map-append}
use Rattle.std.proofs.lemmas.List.Elements.{All-head, All-tail, All-cons, All-nil}
use Rattle.std.specs.Io.KnownBytes.{Consumes, prepend_known}
use Rattle.std.specs.Prelude.{All, ◌≢◌, ◌⊎◌}
use Rattle.pkops.specs.Limits.{Bounds}
use Rattle.pkops.specs.Payloads.{payload_limit}
use Rattle.pkops.specs.Spelling.{Instruction, spelling}
use Rattle.pkops.specs.declared.Reason.{Reason}
use Rattle.pkread.specs.Admission.{IsAllowedBy}
use Rattle.pkread.specs.Rows.{Sight, Takes}
use Rattle.pkread.specs.Sequence.{spellings}
use Rattle.pkcheck.specs.Accepted.{AcceptedFrom}
use Rattle.pkcheck.specs.Heard.{refused_instruction}
use Rattle.pkmachine.specs.Knowledge.{Policy}
use Rattle.pkimport.specs.Import.{Asked}
use Rattle.pkcheck.specs.Refused.{FailsToRead, RefusedFrom, Why, reading, judging, growing}
use Rattle.pkcheck.specs.NewRuns.{InEachNewRun, AnswersNew}
use Rattle.pkcheck.specs.Reports.{AreReportsBehind, Report}
use Rattle.pkcheck.specs.RowOfPickles.{begins, bytes_of_all}
use Rattle.pkmachine.specs.RowRuns.{Beginning, Pickle}
use Rattle.pkcheck.specs.RunFaults.{IsFaultless}
use Rattle.pkstack.specs.Shape.{Breach, and_then}
use Rattle.pkcheck.specs.ThreeEnds.{StoppedFrom}
use Rattle.pkcheck.specs.declared.loading.Loading.{Loading}
use Rattle.pkmachine.specs.declared.old_strings.OldStrings.{OldStrings}
use Rattle.pkload.proofs.Above.{each_above}
use Rattle.pkload.proofs.Exceeding.{none_at, over_along, refused_place}
use Rattle.pkload.proofs.Loading.{IsReady, all_good, billed_more, fits_ready, made_ready}
use Rattle.pkload.proofs.Tolds.{NoneBehindStop, none_behind}
use Rattle.pkload.proofs.Whole.{bill_bounds_runs, each_map, ends_map}
use Rattle.pkload.specs.Bill.{Bill, all_billed, bill_before, billed}
use Rattle.pkload.specs.Costly.{EndsAbove, ExceedsIn, IsReached, NextTaken, TakesNoMore, nothing}
use Rattle.pkload.specs.Costly.{unread, whole}
use Rattle.pkload.specs.Laws.{EndsBilled}
use Rattle.pkload.specs.Private.Meter.{Fits, IsOver}
use Rattle.pkload.specs.Private.Told.{CantBeMetered, Metering, next_if, ready}
use Rattle.pkload.specs.Tolls.{Exceeds}
use Rattle.pkload.specs.Unkept.{CantBeKept, IsUnkept}
use Rattle.pkload.specs.declared.tolls.Excess.{Excess}
use Rattle.pkload.specs.declared.tolls.Excess.TheVariants.{OutOfMemory}
use Rattle.pkload.specs.declared.tolls.Tolls.{Tolls}

-- ---- bytes

consumes_none : (o : Option (List ℕ)) → Consumes o o []
consumes_none None = tt
consumes_none (Some xs) = refl

consumes_front : (o n : Option (List ℕ)) (xs ys : List ℕ) → Consumes o n (xs ++ ys)
    → Consumes o (prepend_known ys n) xs
consumes_front None n xs ys h = tt
consumes_front (Some zs) None xs ys h = absurd h
consumes_front (Some zs) (Some ns) xs ys h = h ∙ append_assoc xs ys ns

pub takes_none : (here : Sight) → Takes here here []
takes_none here = record { bytes = consumes_none here.left; count = refl }

-- the source before these bytes were taken
abbrev before_bytes : List ℕ → Sight → Sight
before_bytes ys new = record { left = prepend_known ys new.left; failures = new.failures }

consumes_back : (n : Option (List ℕ)) (ys : List ℕ) → Consumes (prepend_known ys n) n ys
consumes_back None ys = tt
consumes_back (Some ns) ys = refl

takes_back : (ys : List ℕ) (new : Sight) → Takes (before_bytes ys new) new ys
takes_back ys new = record { bytes = consumes_back new.left ys; count = refl }

consumes_none_first : (o m n : Option (List ℕ)) → Consumes o m [] → Consumes m n []
    → Consumes o n []
consumes_none_first None m n h g = tt
consumes_none_first (Some xs) None n h g = absurd h
consumes_none_first (Some xs) (Some ys) None h g = absurd g
consumes_none_first (Some xs) (Some ys) (Some zs) h g = h ∙ g

takes_front : (old new : Sight) (xs ys : List ℕ) → Takes old new (xs ++ ys)
    → Takes old (before_bytes ys new) xs
takes_front old new xs ys h =
    record { bytes = consumes_front old.left new.left xs ys h.bytes; count = h.count }

pub all_front : (limits : Bounds) (is js : List Instruction)
    → All (IsAllowedBy (payload_limit limits)) (is ++ js)
    → All (IsAllowedBy (payload_limit limits)) is
all_front limits [] js h = All-nil (IsAllowedBy (payload_limit limits))
all_front limits (i ∷ is) js h =
    All-cons (IsAllowedBy (payload_limit limits)) i is
    (All-head (IsAllowedBy (payload_limit limits)) i (is ++ js) h)
    (all_front limits is js (All-tail (IsAllowedBy (payload_limit limits)) i (is ++ js) h))

pub each_at : (P : Instruction → Type 0) (is : List Instruction) (i : Instruction)
    (js : List Instruction) → All P (is ++ i ∷ js) → P i
each_at P [] i js h = All-head P i js h
each_at P (x ∷ is) i js h = each_at P is i js (All-tail P x (is ++ i ∷ js) h)

-- ---- what was taken behind an instruction

-- nothing
pub nothing_behind : (limits : Bounds) (new : Sight) → TakesNoMore limits new new
nothing_behind limits new = record {
  here = new;
  none = takes_none new;
  next = nothing (takes_none new);
}

-- taking nothing before changes nothing
pub none_before : (limits : Bounds) (old there new : Sight) → Takes old there []
    → TakesNoMore limits there new → TakesNoMore limits old new
none_before limits old there new t h = record {
  here = h.here;
  none = record {
    bytes = consumes_none_first old.left there.left h.here.left t.bytes h.none.bytes;
    count = h.none.count ∙ t.count;
  };
  next = h.next;
}

-- ---- runs

runs_above : (excess : Excess) (tolls : Tolls) (bill : Bill) (setting : OldStrings)
    (beginning : Beginning) (is : List Instruction)
    → InEachNewRun setting beginning is (EndsBilled bill)
    → Exceeds excess tolls bill.tally bill.memory
    → InEachNewRun setting beginning is (EndsAbove excess tolls bill.memory)
runs_above excess tolls bill setting beginning is h w =
    each_map AnswersNew (EndsBilled bill) (EndsAbove excess tolls bill.memory) setting beginning is
    (λ n e. ends_map _ _ _ _ e
    (λ s k. subst (λ tally. Exceeds excess tolls tally bill.memory) (sym k.tally) w) (λ s k. tt)) h

pub billed_with : (is : List Instruction) (i : Instruction) (x : Result Bill Breach) (b c : Bill)
    → and_then x (all_billed is) ≡ Ok b → billed i b ≡ Ok c
    → and_then x (all_billed (is ++ i ∷ [])) ≡ Ok c
billed_with is i (Ok a) b c e h = billed_more is (i ∷ []) a
    ∙ ap (λ y. and_then y (all_billed (i ∷ []))) e ∙ ap (λ y. and_then y (all_billed [])) h
billed_with is i (Err r) b c e h = cc

module _ (loading : Loading) (policy : Policy) (limits : Bounds) where
  abbrev pub AreReports : List Pickle → List Instruction → List Report → Type 0
  AreReports before = AreReportsBehind false loading.old_strings (begins loading.memo before)
      (length (bytes_of_all before)) []

  -- ---- the accepted instructions at which a check ends

  -- the check accepted these at the start of a pickle that follows those before, told of them, and
  -- took no more than the next instruction
  pub record Part (before : List Pickle) (here new : Sight) (rs : List Report) : Type 0 where
    pub instructions : List Instruction
    pub there : Sight
    pub admitted : All (IsAllowedBy (payload_limit limits)) instructions
    pub faultless : IsFaultless loading.old_strings (begins loading.memo before) policy limits
        instructions
    pub bytes : Takes here there (spellings instructions)
    pub none : NoneBehindStop instructions
    pub told : AreReports before instructions rs
    pub behind : TakesNoMore limits there new

  pub part_of_accepted : (before : List Pickle) (here there new : Sight) (taken : ℕ)
      (imports : List Asked) (rs : List Report)
      (a : AcceptedFrom loading.old_strings (begins loading.memo before) policy limits here there
      taken imports) → AreReports before a.instructions rs → TakesNoMore limits there new
      → Part before here new rs
  part_of_accepted before here there new taken imports rs a h behind =
      let s = a.sequence.stops in
      record {
        instructions = a.instructions;
        there = there;
        admitted = a.sequence.each;
        faultless = a.faultless;
        bytes = a.bytes;
        none = subst NoneBehindStop (sym s.2) (none_behind s.0 s.1 s.4);
        told = h;
        behind = behind;
      }

  -- the instruction at which the audience stopped the check was taken
  next_of_stopped : (beginning : Beginning) (here new : Sight)
      (s : StoppedFrom loading.old_strings beginning policy limits here new)
      → TakesNoMore limits (before_bytes (spellings (s.instruction ∷ [])) new) new
  next_of_stopped beginning here new s =
      let there = before_bytes (spellings (s.instruction ∷ [])) new in
      record {
        here = there;
        none = takes_none there;
        next = whole s.instruction
            (each_at (IsAllowedBy (payload_limit limits)) s.instructions s.instruction []
            s.admitted)
            (subst (Takes there new) (append-nil (spelling s.instruction))
            (takes_back (spellings (s.instruction ∷ [])) new));
      }

  -- what was taken of the refused instruction
  next_of_refused : (beginning : Beginning) (is : List Instruction) (here new : Sight) (place : ℕ)
      (reason : Reason) (pair : Option Asked)
      → Why loading.old_strings beginning policy limits is here new place reason pair
      → NextTaken limits here new
  next_of_refused beginning is here new place reason pair (reading f) = unread place reason
      (subst (λ p. FailsToRead limits here new place reason p) f.none f)
  next_of_refused beginning is here new place reason pair (judging f) =
      whole f.instruction f.allowed f.bytes
  next_of_refused beginning is here new place reason pair (growing f) =
      whole f.instruction f.allowed f.bytes

  pub part_of_stopped : (before : List Pickle) (here new : Sight) (rs : List Report)
      (s : StoppedFrom loading.old_strings (begins loading.memo before) policy limits here new)
      → AreReports before s.instructions rs → Part before here new rs
  part_of_stopped before here new rs s h = record {
    instructions = s.instructions;
    there = before_bytes (spellings (s.instruction ∷ [])) new;
    admitted = all_front limits s.instructions (s.instruction ∷ []) s.admitted;
    faultless = s.faultless;
    bytes = takes_front here new (spellings s.instructions) (spellings (s.instruction ∷ []))
        (subst (Takes here new)
        (flat_map-append spelling s.instructions (s.instruction ∷ [])) s.bytes);
    none = none_at s.instructions s.goes_on;
    told = h;
    behind = next_of_stopped (begins loading.memo before) here new s;
  }

  module _ (tolls : Tolls) (excess : Excess) (at : ℕ) (n : Metering) where
    abbrev Over : List Report → Metering → Type 0
    Over = IsOver loading.memo tolls excess at n

    heard_last : (before : List Pickle) (is : List Instruction) (i : Instruction)
        (earlier rs : List Report) (m : Metering) → AreReports before (is ++ i ∷ []) rs
        → Over (earlier ++ rs) m → at < length (bytes_of_all before) + length (spellings is) → ⊥
    heard_last before is i earlier rs m h o below = omega (
      arith,
      refused_place loading.memo tolls excess at n loading.old_strings
          (begins loading.memo before) (length (bytes_of_all before)) is i earlier rs m h o,
      below,
    )

    -- what is refused later wasn't told
    not_told : (before : List Pickle) (is : List Instruction) (here new : Sight) (place : ℕ)
        (reason : Reason) (pair : Option Asked)
        (why : Why loading.old_strings (begins loading.memo before) policy limits is here new place
        reason pair) (earlier rs : List Report) (m : Metering)
        → AreReports before (is ++ refused_instruction why) rs → Over (earlier ++ rs) m
        → at < length (bytes_of_all before) + length (spellings is) → AreReports before is rs
    not_told before is here new place reason pair (reading f) earlier rs m h o below =
        subst (λ l. AreReports before l rs) (append-nil is) h
    not_told before is here new place reason pair (judging f) earlier rs m h o below =
        absurd (heard_last before is f.instruction earlier rs m h o below)
    not_told before is here new place reason pair (growing f) earlier rs m h o below =
        absurd (heard_last before is f.instruction earlier rs m h o below)

    pub part_of_refused : (before : List Pickle) (here new : Sight) (place : ℕ) (reason : Reason)
        (pair : Option Asked)
        (r : RefusedFrom (length (bytes_of_all before)) loading.old_strings
        (begins loading.memo before) policy limits here new place reason pair)
        (earlier rs : List Report) (m : Metering)
        → AreReports before (r.instructions ++ refused_instruction r.why) rs
        → Over (earlier ++ rs) m → at < place → Part before here new rs
    part_of_refused before here new place reason pair r earlier rs m h o below = record {
      instructions = r.instructions;
      there = r.here;
      admitted = r.admitted;
      faultless = r.faultless;
      bytes = r.bytes;
      none = none_at r.instructions r.goes_on;
      told = not_told before r.instructions r.here new place reason pair r.why earlier rs m h o
          (subst (λ k. at < k) r.place below);
      behind = record {
        here = r.here;
        none = takes_none r.here;
        next = next_of_refused (begins loading.memo before) r.instructions r.here new place reason
            pair r.why;
      };
    }

    -- ---- the pickle that is too much

    over_ready : (rs : List Report) (m : Metering) → (ready loading.memo m).bill.ended ≡ false
        → Over rs m → Over rs (ready loading.memo m)
    over_ready [] m e o = o
    over_ready (r ∷ []) m e o = (
      o.0,
      record {
        limit = λ ne. (made_ready tolls loading r m e ∙ (o.1.limit ne).0, (o.1.limit ne).1);
        unkept = λ out. subst
            (λ q. CantBeMetered (next_if q loading.memo (ready loading.memo m)) r.told) (sym e)
            (o.1.unkept out);
      },
    )
    over_ready (r ∷ s ∷ rs) m e o = (o.0, made_ready tolls loading r m e ∙ o.1, o.2, o.3)

    -- the instruction is reached, and if the bill was kept it exceeds the limit
    pub record IsIn (here new : Sight) (before : List Pickle) : Type 0 where
      pub reached : IsReached loading policy limits tolls here before at
      pub behind : TakesNoMore limits reached.there new
      pub number : excess ≢ OutOfMemory → n.pickle ≡ length before
      pub over : excess ≢ OutOfMemory → ExceedsIn loading policy limits tolls here before at excess
      pub unkept : excess ≡ OutOfMemory → IsUnkept before reached.last reached.earlier

    exceeds_in : (before : List Pickle) (here : Sight)
        (k : IsReached loading policy limits tolls here before at)
        → billed k.last k.earlier ≡ Ok n.bill → Exceeds excess tolls n.bill.tally n.bill.memory
        → ExceedsIn loading policy limits tolls here before at excess
    exceeds_in before here k adds exceeds = record {
      reached = k;
      bill = n.bill;
      adds = adds;
      exceeds = exceeds;
      each = each_above tolls n.bill.memory loading.old_strings k.last excess k.earlier n.bill
          adds exceeds.0 (begins loading.memo before) k.instructions k.so_far;
      runs = runs_above excess tolls n.bill loading.old_strings
          (begins loading.memo before) (k.instructions ++ k.last ∷ [])
          (bill_bounds_runs loading.old_strings (begins loading.memo before)
          (k.instructions ++ k.last ∷ []) n.bill (billed_with k.instructions k.last
          (bill_before (begins loading.memo before)) k.earlier n.bill k.so_far adds))
          exceeds;
    }

    pub over_in : (before : List Pickle) (here new : Sight) (rs : List Report)
        (m : Metering) → Part before here new rs → IsReady tolls loading before m → Fits tolls m
        → Over rs m → IsIn here new before
    over_in before here new rs m p r w o =
        let k = over_along loading.memo tolls excess at n loading.old_strings
        (begins loading.memo before) (length (bytes_of_all before)) [] p.instructions rs
        (ready loading.memo m) p.told (all_good limits p.instructions p.admitted) p.none r.going
        (fits_ready tolls loading.memo m.bill.ended m w) (over_ready rs m r.going o) in
        let reached : IsReached loading policy limits tolls here before at = record {
          instructions = k.front;
          last = k.last;
          goes_on = k.goes_on;
          admitted = subst (All (IsAllowedBy (payload_limit limits))) k.parts p.admitted;
          faultless = subst (IsFaultless loading.old_strings (begins loading.memo before) policy
              limits) k.parts p.faultless;
          there = p.there;
          bytes = subst (λ is. Takes here p.there (spellings is)) k.parts p.bytes;
          place = k.place;
          earlier = k.earlier;
          so_far = ap (λ x. and_then x (all_billed k.front)) r.bill ∙ k.so_far;
          within = k.within;
        } in
        record {
          reached = reached;
          behind = p.behind;
          number = λ ne. k.pickle ne ∙ r.pickle;
          over = λ ne. exceeds_in before here reached (k.adds ne) (k.exceeds ne);
          unkept = λ out. subst (λ p. (2 ^ 64 ≤ p) ⊎ CantBeKept k.last k.earlier) r.pickle
              (k.unkept out);
        }
