-- The pickle that is too much, found at each of the three ends of a check.
use Rattle.std.proofs.Common.{◌≡◌, ◌<◌, ℕ, false, List, [], ◌∷◌, ◌++◌, append-nil}
use Rattle.std.proofs.Common.{append_assoc, refl, sym, ap, subst, ◌∙◌}
use Rattle.std.specs.Prelude.{◌≢◌, length, Option}
use Rattle.pkops.specs.Limits.{Bounds}
use Rattle.pkops.specs.Payloads.{payload_limit}
use Rattle.pkops.specs.declared.Reason.{Reason}
use Rattle.pkops.specs.Spelling.{Instruction}
use Rattle.pkread.specs.Rows.{Sight, Takes}
use Rattle.pkread.specs.Sequence.{IsSequence, StopIsLast, spellings}
use Rattle.pkmachine.specs.Knowledge.{Policy}
use Rattle.pkimport.specs.Import.{Asked}
use Rattle.pkcheck.specs.NewRuns.{FaultlessIsRun}
use Rattle.pkcheck.specs.Reports.{Report}
use Rattle.pkcheck.specs.RowOfPickles.{AreAccepted, IsAcceptedBehind, bytes_of_all}
use Rattle.pkmachine.specs.RowRuns.{Pickle}
use Rattle.pkcheck.specs.ThreeEnds.{AcceptedAndTold, AreReportsOf, RefusedAndTold, StoppedAndTold}
use Rattle.pkcheck.specs.declared.check_loop.Extent.{Extent}
use Rattle.pkcheck.specs.declared.check_loop.Extent.TheVariants.{OnePickle, ToTheEnd}
use Rattle.pkcheck.specs.declared.loading.Loading.{Loading}
use Rattle.pkload.proofs.Costs.{AreReports, IsIn, Part, none_before, nothing_behind, over_in}
use Rattle.pkload.proofs.Costs.{part_of_accepted, part_of_refused, part_of_stopped, takes_none}
use Rattle.pkload.proofs.Exceeding.{past}
use Rattle.pkload.proofs.Loading.{IsReady, at_first, begins_ready, begins_within, none_ends}
use Rattle.pkload.proofs.Loading.{pickle_within, ready_next}
use Rattle.pkload.specs.Costly.{CostsTooMuch, StopsAt, TakesNoMore}
use Rattle.pkload.specs.Loading.{KeepWithin}
use Rattle.pkload.specs.Private.Meter.{Fits, IsOver}
use Rattle.pkload.specs.Private.Told.{Metering}
use Rattle.pkload.specs.declared.tolls.Excess.{Excess}
use Rattle.pkload.specs.declared.tolls.Excess.TheVariants.{OutOfMemory}
use Rattle.pkload.specs.declared.tolls.Tolls.{Tolls}

module _ (loading : Loading) (policy : Policy) (limits : Bounds) (tolls : Tolls) (excess : Excess)
    (at : ℕ) (n : Metering) (run : FaultlessIsRun) where
  abbrev Over : List Report → Metering → Type 0
  Over = IsOver loading.memo tolls excess at n

  abbrev IsHere : Sight → Sight → List Pickle → Type 0
  IsHere = IsIn loading policy limits tolls excess at n

  -- the reports of what was accepted of the last pickle; if there are none, no more was taken than
  -- its first instruction
  abbrev Tail : List Pickle → (here new : Sight) → List Report → Type 0
  Tail all here new [] = TakesNoMore limits here new
  Tail all here new (r ∷ rs) = Part loading policy limits all here new (r ∷ rs)

  none_told : (all : List Pickle) (here there new : Sight) (is : List Instruction)
      → AreReports loading policy limits all is [] → Takes here there (spellings is)
      → TakesNoMore limits there new → TakesNoMore limits here new
  none_told all here there new [] h t b = none_before limits here there new t b
  none_told all here there new (i ∷ is) h t b = absurd h

  tail_of : (all : List Pickle) (here new : Sight) (rs : List Report)
      → Part loading policy limits all here new rs → Tail all here new rs
  tail_of all here new [] p = none_told all here p.there new p.instructions p.told p.bytes p.behind
  tail_of all here new (r ∷ rs) p = p

  no_reports : (all : List Pickle) (is : List Instruction) → StopIsLast is
      → AreReports loading policy limits all is [] → ⊥
  no_reports all [] s h = none_ends s.0 s.1 [] s.2
  no_reports all (i ∷ is) s h = h

  first_none : (first others rs qs : List Report) → rs ≡ first ++ others → rs ++ qs ≡ []
      → first ≡ []
  first_none [] others rs qs e h = refl
  first_none (r ∷ first) others rs qs e h =
      let none : r ∷ ((first ++ others) ++ qs) ≡ [] = subst (λ l. l ++ qs ≡ []) e h in cc none

  -- where nothing is told behind an accepted pickle, no more was taken than the next instruction
  ends_behind : (ps before all : List Pickle) (between here new : Sight) (rs qs : List Report)
      → AreAccepted loading policy limits between here before ps
      → AreReportsOf false loading before ps rs → Tail all here new qs → rs ++ qs ≡ []
      → TakesNoMore limits between new
  ends_behind [] before all between here new rs [] a h t e =
      none_before limits between here new a t
  ends_behind [] before all between here new [] (q ∷ qs) a h t e = cc e
  ends_behind [] before all between here new (r ∷ rs) (q ∷ qs) a h t e = cc
  ends_behind (p ∷ ps) before all between here new rs qs a h t e =
      absurd (no_reports before p.instructions (subst StopIsLast a.1.1 a.1.0.sequence.stops)
      (subst (AreReports loading policy limits before p.instructions)
      (first_none h.0 h.1 rs qs h.2 e) h.3))

  -- one of the pickles that follow these is too much
  record IsAmong (old new : Sight) (before : List Pickle) : Type 0 where
    pub more : List Pickle
    pub here : Sight
    pub each : AreAccepted loading policy limits old here before more
    pub kept : KeepWithin loading tolls before more
    pub over : IsHere here new (before ++ more)

  -- the next one is
  at_next : (old here new : Sight) (before : List Pickle)
      → AreAccepted loading policy limits old here before []
      → IsHere here new before → IsAmong old new before
  at_next old here new before a h = record {
    more = [];
    here = here;
    each = a;
    kept = tt;
    over = subst (IsHere here new) (sym (append-nil before)) h;
  }

  at_end : (before all : List Pickle) (old here new : Sight)
      (qs : List Report) (m : Metering) → before ≡ all
      → AreAccepted loading policy limits old here before [] → Tail all here new qs
      → IsReady tolls loading before m → Fits tolls m → Over qs m → IsAmong old new before
  at_end before all old here new [] m e a t r w o = absurd o
  at_end before all old here new (q ∷ qs) m e a t r w o =
      at_next old here new before a (over_in loading policy limits tolls excess at n before here new
      (q ∷ qs) m (subst (λ b. Part loading policy limits b here new (q ∷ qs)) (sym e) t) r w o)

  -- this one is, or a later one
  among_rest : (p : Pickle) (before : List Pickle) (old between new : Sight)
      (first later zs : List Report) (m : Metering)
      → IsAcceptedBehind loading policy limits old between before p
      → AreReports loading policy limits before p.instructions first
      → IsReady tolls loading before m → Fits tolls m → later ≡ zs → Over (first ++ later) m
      → (later ≡ [] → TakesNoMore limits between new)
      → ((k : Metering) → IsReady tolls loading (before ++ p ∷ []) k → Fits tolls k
      → Over later k → IsAmong between new (before ++ p ∷ [])) → IsAmong old new before
  among_rest p before old between new first later [] m a h r w e o end on =
      at_next old old new before (takes_none old)
      (over_in loading policy limits tolls excess at n before old new first m
      (part_of_accepted loading policy limits before old between new
      (length (spellings p.instructions)) p.imports first a.0
      (subst (λ is. AreReports loading policy limits before is first) (sym a.1) h) (end e)) r w
      (subst (λ l. Over l m) (append-nil first) (subst (λ l. Over (first ++ l) m) e o)))
  among_rest p before old between new first later (z ∷ zs) m a h r w e o end on =
      let k = past loading.memo tolls excess at n first z zs m
      (subst (λ l. Over (first ++ l) m) e o) in
      let one = pickle_within tolls loading limits (length (bytes_of_all before)) before
      p.instructions first m k.metering
      (subst (IsSequence (payload_limit limits)) a.1 a.0.sequence) h r w k.is k.fits in
      let rest = on k.metering (ready_next tolls loading before p m k.metering r one) one.fits
      (subst (λ l. Over l k.metering) (sym e) k.over) in
      record {
        more = p ∷ rest.more;
        here = rest.here;
        each = (between, a, rest.each);
        kept = (one.costs, rest.kept);
        over = subst (IsHere rest.here new) (append_assoc before (p ∷ []) rest.more) rest.over;
      }

  among : (ps before all : List Pickle) (old here new : Sight)
      (rs qs : List Report) (m : Metering) → before ++ ps ≡ all
      → AreAccepted loading policy limits old here before ps
      → AreReportsOf false loading before ps rs → Tail all here new qs
      → IsReady tolls loading before m → Fits tolls m → Over (rs ++ qs) m → IsAmong old new before
  among [] before all old here new rs qs m e a h t r w o =
      at_end before all old here new qs m (sym (append-nil before) ∙ e) a t r w
      (subst (λ l. Over (l ++ qs) m) h o)
  among (p ∷ ps) before all old here new rs qs m e a h t r w o =
      among_rest p before old a.0 new h.0 (h.1 ++ qs) (h.1 ++ qs) m a.1 h.3 r w refl
      (subst (λ l. Over l m) (ap (λ l. l ++ qs) h.2 ∙ append_assoc h.0 h.1 qs) o)
      (λ none. ends_behind ps (before ++ p ∷ []) all a.0 here new h.1 qs a.2 h.4 t none)
      (λ k ready fits over. among ps (before ++ p ∷ []) all a.0 here new h.1 qs k
      (append_assoc before (p ∷ []) ps ∙ e) a.2 h.4 t ready fits over)

  -- ---- the whole check

  -- the check ended because of the instruction, and if the bill was kept it exceeds the limit
  pub record EndsOver (old new : Sight) (extent : Extent) : Type 0 where
    pub stops : StopsAt loading policy limits tolls old new extent at excess
    pub costly : excess ≢ OutOfMemory
        → CostsTooMuch loading policy limits tolls old extent n.pickle at excess

  ends_over : (old new here : Sight) (extent : Extent) (before : List Pickle)
      → AreAccepted loading policy limits old here [] before → KeepWithin loading tolls [] before
      → (extent ≡ OnePickle → before ≡ []) → IsHere here new before → EndsOver old new extent
  ends_over old new here extent before each kept alone h = record {
    stops = record {
      before = before;
      here = here;
      each = each;
      kept = kept;
      alone = alone;
      reached = h.reached;
      behind = h.behind;
      unkept = h.unkept;
    };
    costly = λ ne. let o = h.over ne in
        record {
          before = before;
          here = here;
          each = each;
          kept = kept;
          number = h.number ne;
          alone = alone;
          over = o;
          some = run loading policy limits old here before o.reached.instructions o.reached.last
              each o.reached.goes_on o.reached.admitted o.reached.faultless;
        };
  }

  alone : (old new : Sight) (rs : List Report)
      → Part loading policy limits [] old new rs → Over rs at_first → EndsOver old new OnePickle
  alone old new rs p o = ends_over old new old OnePickle [] (takes_none old) tt (λ e. refl)
      (over_in loading policy limits tolls excess at n [] old new rs at_first p
      (begins_ready tolls loading) (begins_within tolls loading) o)

  -- the pickles are these, and behind them comes a part of another
  among_all : (ps : List Pickle) (old here new : Sight)
      (rs qs : List Report) → AreAccepted loading policy limits old here [] ps
      → AreReportsOf false loading [] ps rs → Tail ps here new qs
      → Over (rs ++ qs) at_first → EndsOver old new ToTheEnd
  among_all ps old here new rs qs a h t o =
      let k = among ps [] ps old here new rs qs at_first refl a h t
      (begins_ready tolls loading) (begins_within tolls loading) o in
      ends_over old new k.here ToTheEnd k.more k.each k.kept (λ e. cc e) k.over

  pub accepted_over : (old new : Sight) (extent : Extent)
      (taken pickles : ℕ) (imports : List Asked) (rs : List Report)
      → AcceptedAndTold false loading policy limits old new extent taken pickles imports rs
      → Over rs at_first → EndsOver old new extent
  accepted_over old new ToTheEnd taken pickles imports rs h o =
      among_all h.0.row old new new rs [] h.0.each h.1 (nothing_behind limits new)
      (subst (λ l. Over l at_first) (sym (append-nil rs)) o)
  accepted_over old new OnePickle taken pickles imports rs h o =
      alone old new rs (part_of_accepted loading policy limits [] old new new taken imports rs h.0
      h.1 (nothing_behind limits new)) o

  pub refused_over : (old new : Sight) (extent : Extent)
      (pickle place : ℕ) (reason : Reason) (pair : Option Asked) (imports : List Asked)
      (rs : List Report)
      → RefusedAndTold false loading policy limits old new extent pickle place reason pair imports
      rs → at < place → Over rs at_first → EndsOver old new extent
  refused_over old new ToTheEnd pickle place reason pair imports rs h below o =
      let o' : Over (h.earlier ++ h.last) at_first = subst (λ l. Over l at_first) h.all o in
      among_all h.right.before old h.right.here new h.earlier h.last h.right.each h.of_pickles
      (tail_of h.right.before h.right.here new h.last
      (part_of_refused loading policy limits tolls excess at n h.right.before h.right.here new
      place reason pair h.right.refused h.earlier h.last at_first h.behind o' below)) o'
  refused_over old new OnePickle pickle place reason pair imports rs h below o =
      alone old new rs
      (part_of_refused loading policy limits tolls excess at n [] old new place reason pair
      h.0.refused [] rs at_first h.1 o below) o

  pub stopped_over : (old new : Sight) (extent : Extent)
      (rs : List Report) (failed : Report)
      → StoppedAndTold false loading policy limits old new extent rs failed
      → Over rs at_first → EndsOver old new extent
  stopped_over old new ToTheEnd rs failed h o =
      among_all h.before old h.here new h.earlier h.last h.each h.of_pickles
      (tail_of h.before h.here new h.last
      (part_of_stopped loading policy limits h.before h.here new h.last h.stopped h.behind))
      (subst (λ l. Over l at_first) h.all o)
  stopped_over old new OnePickle rs failed h o =
      alone old new rs (part_of_stopped loading policy limits [] old new rs h.0 h.1) o
