-- Some run whose answers are new objects gets past instructions without a fault.
use Rattle.std.proofs.Common.{◌≡◌, ℕ, List, [], ◌∷◌, ◌++◌, Some, None, refl, sym, ap, subst, ◌∙◌}
use Rattle.std.proofs.Common.{append-nil, append_assoc, length}
use Rattle.std.specs.Prelude.{All}
use Rattle.std.proofs.lemmas.List.{map-append}
use Rattle.std.proofs.lemmas.List.Elements.{All-cons, All-nil}
use Rattle.pkops.specs.Limits.{Bounds}
use Rattle.pkops.specs.Payloads.{payload_limit}
use Rattle.pkops.specs.Spelling.{Instruction}
use Rattle.pkops.specs.declared.Op.TheVariants as op
use Rattle.pkread.specs.Admission.{IsAllowedBy}
use Rattle.pkread.specs.Rows.{Sight}
use Rattle.pkmachine.specs.Faults.{everyone}
use Rattle.pkmachine.specs.Knowledge.{Knowledge, Policy, nothing_known}
use Rattle.pkcheck.specs.Listing.{imports_among}
use Rattle.pkcheck.specs.NewRuns.{AnswersNew, FaultlessIsRun, GetsPast, IfStopped, InSomeNewRun}
use Rattle.pkcheck.specs.NewRuns.{RowObeys}
use Rattle.pkcheck.specs.RowOfPickles.{AreAccepted, begins}
use Rattle.pkmachine.specs.RowRuns.{Afresh, Pickle, next_from, run_row, sequences_of}
use Rattle.pkcheck.specs.RunFaults.{HasRunFault, IsFaultless}
use Rattle.pkmachine.specs.Runs.{CanCome, Outcome, State, Stopped, start}
use Rattle.pkmachine.specs.WholeRuns.{Ended, EndedBy, Reached, run_as}
use Rattle.pkcheck.specs.declared.loading.Loading.{Loading}
use Rattle.pkmachine.specs.declared.memo.Memo.{Memo}
use Rattle.pkmachine.specs.declared.memo.Memo.TheVariants.{Fresh, Kept}
use Rattle.pkmachine.specs.declared.old_strings.OldStrings.{OldStrings}
use Rattle.pkcheck.proofs.Wholes.RunSteps.{same_some}
use Rattle.pkcheck.proofs.Wholes.Past.{Comes, Past, past, stopped}
use Rattle.pkcheck.proofs.Wholes.Stops.{StopsNowhere, last_more, sequence_last, stops_nowhere}
use Rattle.pkcheck.proofs.Wholes.ExclusiveRows.{same_runs}
use Rattle.pkcheck.proofs.Wholes.NextPickle.{begins_next, cleared, covers_cleared, memo_of}
use Rattle.pkcheck.proofs.Wholes.Origins.{Begins, begins_afresh, empty}
use Rattle.pkmachine.specs.StepLaws.{StepLaws}
use Rattle.pkmachine.specs.Witnesses.{Answered, CoversBy}
use Rattle.pkcheck.proofs.Wholes.Unlisted.{accepted}
use Rattle.pkcheck.proofs.Wholes.Walk.{Accepts}

module _ (setting : OldStrings) where
  -- each object about which nothing is known is an answer with the empty text
  abbrev IsCovered : Knowledge → State → Type 0
  IsCovered = CoversBy (Answered [])

  -- some run of these pickles stops, and the next one begins in a covered state
  record RunOfRow (ps : List (List Instruction)) (known : Knowledge) (s : State) : Type 0 where
    outcomes : List (List Outcome)
    can : All (All CanCome) outcomes
    new : RowObeys AnswersNew setting ps outcomes s
    first : State
    runs : run_row setting ps outcomes s ≡ Some first
    covered : IsCovered known first

  one_pickle : (p : List Instruction) (ps : List (List Instruction)) (last : Instruction)
      (k known : Knowledge) (s : State) → last.op ≡ op.Stop → Past setting [] p last k s
      → ((t : State) → IsCovered (memo_of k) t → RunOfRow ps known t) → RunOfRow (p ∷ ps) known s
  one_pickle p ps last k known s stop a on =
      let (r, t, e, c) = stopped a stop in
      let m = on (cleared t) (covers_cleared (Answered []) k t c) in
      record {
        outcomes = a.outcomes ∷ m.outcomes;
        can = All-cons (All CanCome) a.outcomes m.outcomes a.can m.can;
        new = (
          a.new,
          subst (λ x. IfStopped x (RowObeys AnswersNew setting ps m.outcomes)) (sym e) m.new,
        );
        first = m.first;
        runs = ap (λ x. next_from x (run_row setting ps m.outcomes)) e ∙ m.runs;
        covered = m.covered;
      }

  gets_past : (known : Knowledge) (n : ℕ) (x : Ended) → Comes [] known x → GetsPast n x
  gets_past known n (Reached t) h = tt
  gets_past known n (EndedBy (Stopped r t)) h = tt
  gets_past known n _ h = h

  past_end : (p : List Instruction) (last : Instruction) (known : Knowledge) (n : ℕ) (s : State)
      (a : Past setting [] p last known s) → GetsPast n (run_as setting p a.outcomes s)
  past_end p last known n s a =
      subst (GetsPast n) (sym a.runs) (gets_past known n a.ended a.comes)

  module _ (laws : StepLaws) (limits : Bounds) (policy : Policy) where
    same_faultless : (xs ys : List Pickle) (p : List Instruction)
        → sequences_of xs ≡ sequences_of ys
        → IsFaultless setting (begins Kept ys) policy limits p
        → IsFaultless setting (begins Kept xs) policy limits p
    same_faultless xs ys p e f = λ q i after g r h. f q i after g r
        (same_runs setting q (λ at_i. HasRunFault policy limits q (everyone at_i) i r) Kept xs ys e
        h)

    abbrev kept_memo : Loading
    kept_memo = record { memo = Kept; old_strings = setting }

    -- what is known behind all of these pickles; the same ones, with the imports of a check that
    -- permits each
    record BegunBehind (done ps : List Pickle) (k : Knowledge) : Type 0 where
      all : List Pickle
      same : sequences_of all ≡ sequences_of (done ++ ps)
      known : Knowledge
      begun : Begins setting None (begins Kept all) known
      row : (s : State) → IsCovered k s → RunOfRow (sequences_of ps) known s

    begun_behind : (ps done like : List Pickle) (k : Knowledge) (old here : Sight)
        → AreAccepted kept_memo policy limits old here done ps
        → sequences_of like ≡ sequences_of done → Begins setting None (begins Kept like) k
        → BegunBehind done ps k
    begun_behind [] done like k old here a e b = record {
      all = like;
      same = e ∙ ap sequences_of (sym (append-nil done));
      known = k;
      begun = b;
      row = λ s c. record {
        outcomes = [];
        can = All-nil (All CanCome);
        new = tt;
        first = s;
        runs = refl;
        covered = c;
      };
    }
    begun_behind (p ∷ ps) done like k old here (between, (h, is_p), a) e b =
        let y = accepted laws policy limits b h.instructions h.sequence.each
        (sequence_last h.sequence) (same_faultless like done h.instructions e h.faultless) in
        let this : Pickle =
        record { instructions = h.instructions; imports = imports_among y.asked } in
        let next = begins_next laws like b h.sequence y.accepts in
        let m = begun_behind ps (done ++ p ∷ []) (like ++ this ∷ []) (memo_of y.known) between here
        a
        (map-append (λ (z : Pickle). z.instructions) like (this ∷ [])
        ∙ ap (λ l. l ++ h.instructions ∷ []) e
        ∙ ap (λ q. sequences_of done ++ q ∷ []) is_p
        ∙ sym (map-append (λ (z : Pickle). z.instructions) done (p ∷ [])))
        next in
        let s = h.sequence.stops in
        record {
          all = m.all;
          same = m.same ∙ ap sequences_of (append_assoc done (p ∷ []) ps);
          known = m.known;
          begun = m.begun;
          row = λ t c. subst (λ q. RunOfRow (q ∷ sequences_of ps) m.known t) is_p
              (one_pickle h.instructions (sequences_of ps) s.1 y.known m.known t s.3
              (subst (λ q. Past setting [] q s.1 y.known t) (sym s.2)
              (past laws empty s.0 s.1 (stops_nowhere s.0 s.4)
              (subst (λ q. Accepts setting None limits q k y.known y.asked) s.2 y.accepts) t
              c)) m.row);
        }

    module _ (is : List Instruction) (last : Instruction) (on : StopsNowhere is)
        (allowed : All (IsAllowedBy (payload_limit limits)) (is ++ last ∷ [])) where
      abbrev p : List Instruction
      p = is ++ last ∷ []

      -- the run of the pickles before, and then that of the instructions
      joined : (before : List Pickle) (k known : Knowledge)
          (r : RunOfRow (sequences_of before) k start)
          → Past setting [] p last known r.first
          → InSomeNewRun setting (begins Kept before) p GetsPast
      joined [] k known r a =
          let b = subst (Past setting [] p last known) (sym (same_some start r.first r.runs)) a in
          (b.outcomes, b.can, b.new, past_end p last known 0 start b)
      joined (x ∷ before) k known r a = (
        r.outcomes,
        r.first,
        a.outcomes,
        r.can,
        r.runs,
        r.new,
        a.can,
        a.new,
        past_end p last known (length r.first.events) r.first a,
      )

      by_memo : (memo : Memo) (before : List Pickle) (old here : Sight)
          → AreAccepted (record { memo = memo; old_strings = setting }) policy limits old here []
          before → IsFaultless setting (begins memo before) policy limits p
          → InSomeNewRun setting (begins memo before) p GetsPast
      by_memo Fresh before old here a f =
          let begun : Begins setting None Afresh nothing_known = begins_afresh in
          let y = accepted laws policy limits begun p allowed (last_more is last on) f in
          let b = past laws empty is last on y.accepts start (record { entries = tt; memo = tt }) in
          (b.outcomes, b.can, b.new, past_end p last y.known 0 start b)
      by_memo Kept before old here a f =
          let m = begun_behind before [] [] nothing_known old here a refl begins_afresh in
          let y = accepted laws policy limits m.begun p allowed (last_more is last on)
          (same_faultless m.all before p m.same f) in
          let r = m.row start (record { entries = tt; memo = tt }) in
          joined before m.known y.known r (past laws empty is last on y.accepts r.first r.covered)

pub faultless_is_run : StepLaws → FaultlessIsRun
faultless_is_run laws loading policy limits old here before is last a n allowed f =
    by_memo loading.old_strings laws limits policy is last (stops_nowhere is n) allowed loading.memo
    before old here a f
