-- What is known behind the STOP of a pickle, and whether another one follows.
use Rattle.std.proofs.Common.{◌≡◌, ◌+◌, ℕ, List, [], ◌∷◌, ◌++◌, length, None, true, refl, sym, ap}
use Rattle.std.proofs.Common.{subst, ◌∙◌, arith, Ok, append-nil, Bool, false, ◌≢◌, Option, Some}
use Rattle.std.specs.Io.KnownBytes.{prepend_known}
use Rattle.pkops.specs.Limits.{Bounds}
use Rattle.pkops.specs.Payloads.{payload_limit}
use Rattle.pkops.specs.declared.Refusal.{Refusal as ReadRefusal}
use Rattle.pkread.specs.Heads.{StepsHeadFrom}
use Rattle.pkread.specs.ReaderCalls.{ReaderState, has_ended}
use Rattle.pkread.specs.Rows.{Sight, Takes, unread}
use Rattle.pkread.specs.Sequence.{CountsAt, IsSequence}
use Rattle.pkread.specs.declared.Head.TheVariants as head
use Rattle.pkcheck.specs.Heard.{refused_instruction}
use Rattle.pkmachine.specs.Knowledge.{Knowledge, Policy, nothing_known}
use Rattle.pkimport.specs.Import.{Asked}
use Rattle.pkcheck.specs.Private.NextPickle.{IsRefusedBehind, listed_in}
use Rattle.pkmachine.specs.View.{moved_apart, restarted}
use Rattle.pkcheck.specs.ThreeEnds.{AcceptedAndTold, AreReportsOf}
use Rattle.pkcheck.specs.Refused.{RefusedFrom}
use Rattle.pkcheck.specs.Reports.{AreReportsBehind, Report}
use Rattle.pkcheck.specs.RowOfPickles.{HasMore, begins, bytes_of_all}
use Rattle.pkmachine.specs.RowRuns.{Pickle}
use Rattle.pkcheck.specs.WithImports.{ImportsBefore}
use Rattle.pkcheck.specs.declared.check_loop.Extent.{Extent}
use Rattle.pkcheck.specs.declared.check_loop.Extent.TheVariants.{OnePickle, ToTheEnd}
use Rattle.pkcheck.specs.declared.loading.Loading.{Loading}
use Rattle.pkcheck.specs.Private.Judgement.{SessionView}
use Rattle.pkread.specs.Run.{Reads}
use Rattle.pkcheck.proofs.Wholes.Checked.{IsReady, checked_none}
use Rattle.pkcheck.proofs.Wholes.RowOfPickles.{refuses_again, RowSoFar, all_listed, next_ready}
use Rattle.pkcheck.proofs.Wholes.RowOfPickles.{pickle_more, refused_behind, row_accepted, this}
use Rattle.pkcheck.proofs.Wholes.ThreeEnds.{alone_told, as_next, reports_more}
use Rattle.pkcheck.proofs.Wholes.Going.{AcceptedNow, Going, IsAlone, RefusedNow, alone_in_row}
use Rattle.pkcheck.proofs.Wholes.Going.{none_before_it, phase_ended}
use Rattle.pkops.specs.declared.Reason.TheVariants.{Truncated}
use Rattle.pkread.specs.Again.{NoByteIsRefused, StepsAgain, WhyNoByte}

known_ahead : (b : ℕ) (left : Option (List ℕ)) → prepend_known (b ∷ []) left ≢ Some []
known_ahead b None = λ e. cc
known_ahead b (Some l) = λ e. cc

-- another byte follows the pickle
pub some_ahead : (b : ℕ) (ahead : List ℕ) (now : Sight) → ahead ≡ b ∷ []
    → HasMore (unread ahead now)
some_ahead b ahead now is = rw is (known_ahead b now.left)

-- such a refusal does not mean that the source ended
pub behind_is_not_cut : (s t : ReaderState) (x : ReadRefusal) → IsRefusedBehind s t x
    → x.reason ≡ Truncated → ⊥
behind_is_not_cut s t x h e = subst (WhyNoByte s.source t.source s.taken) e h.why

pub behind_counts : (s t : ReaderState) (x : ReadRefusal) → IsRefusedBehind s t x → NoByteIsRefused
    → CountsAt x.reason s.source.failures t.source.failures
behind_counts s t x h law = (law 0 s _ x (refuses_again s t x h)).1

module _ {holding : Bool} {loading : Loading} {policy : Policy} {limits : Bounds} {old : Sight}
    {e : Extent} {A : Type 0} {hears : A → A → List Report → Type 0} {first : A} {pickles : ℕ}
    {apart : List Asked} {kept : ℕ} {s : ReaderState} {v : SessionView} {now : A}
    (g : Going holding loading policy limits old e hears first pickles apart kept s v now)
    (ended : has_ended s ≡ true) where
  abbrev Accepted : ℕ → ℕ → List Asked → Sight → Type 0
  Accepted taken number imports new =
      AcceptedNow holding loading policy limits old e hears first taken number imports new now

  sequence_here : IsSequence (payload_limit limits) g.so_far.read
  sequence_here = (g.laws.ended g.here g.origin.at (payload_limit limits) g.so_far.read s s
      (Ok head.Ended) g.so_far.checked.reads (
        refl,
        subst (λ f. StepsHeadFrom f s (Ok head.Ended) s)
            (sym (phase_ended s.phase ended)) (refl, refl),
      ) refl).0

  none_failed_here : s.source.failures ≡ old.failures
  none_failed_here = g.so_far.checked.reads.bytes.count ∙ none_before_it g

  pub accepts_alone : e ≡ OnePickle → Accepted s.taken 1 v.machine.imports s.source
  accepts_alone is = record {
    reports = g.earlier ++ g.last;
    right = subst (λ x. AcceptedAndTold holding loading policy limits old s.source x s.taken 1
        v.machine.imports (g.earlier ++ g.last)) (sym is)
        (alone_told g (subst (λ x. IsAlone x old g.here g.before) is g.alone) sequence_here);
    told = g.heard;
    counts = none_failed_here;
  }

  -- the pickles with this one
  abbrev these : List Pickle
  these = g.before ++ this g.so_far.read g.so_far.asked ∷ []

  -- what was told of them
  told_of_these : AreReportsOf holding loading [] these (g.earlier ++ g.last)
  told_of_these = reports_more holding loading [] g.before (this g.so_far.read g.so_far.asked)
      g.earlier g.last g.of_pickles
      (as_next g (λ n b. AreReportsBehind holding loading.old_strings b n [] g.so_far.read g.last)
      g.so_far.told)

  ready : IsReady loading.old_strings policy limits (begins loading.memo these)
      (restarted loading.memo v.machine)
  ready = next_ready g.laws.taking g.row g.so_far.checked sequence_here

  row_here : {new : Sight} → Takes s.source new [] → (known : Knowledge) {all : List Asked}
      → all ≡ moved_apart loading.memo apart v.machine.imports
      → RowSoFar loading policy limits old new
      (record { at = s.taken; beginning = begins loading.memo these; known = known })
      (pickles + 1) all these
  row_here takes known lists =
      pickle_more g.laws.taking g.row g.so_far.checked sequence_here takes known lists

  -- another pickle begins
  pub going_again : e ≡ ToTheEnd → {t : ReaderState} {number : ℕ} {all : List Asked} {others : ℕ}
      {n : SessionView} → StepsAgain s (Ok true) t → HasMore t.source → number ≡ pickles + 1
      → all ≡ moved_apart loading.memo apart v.machine.imports
      → n ≡ record { frame = 0; machine = restarted loading.memo v.machine }
      → others ≡ length n.machine.imports
      → Going holding loading policy limits old e hears first number all others t n now
  going_again is {t} {number} {all} (room, takes, on) more one_more lists restarts count =
      let own = count ∙ ap length (ap (λ w. w.machine.imports) restarts ∙ ready.imports) in
      let known = (restarted loading.memo v.machine).knowledge in
      rw (one_more, restarts) (record {
        laws = g.laws;
        one = g.one;
        law = g.law;
        bounded = g.bounded;
        here = t.source;
        origin = record { at = s.taken; beginning = begins loading.memo these; known = known };
        before = these;
        row = row_here takes known lists;
        own = own;
        more = λ ne. more;
        alone = alone_in_row e old t.source these is;
        earlier = g.earlier ++ g.last;
        of_pickles = told_of_these;
        last = [];
        so_far = record {
          read = [];
          asked = [];
          checked = checked_none g.so_far.checked.laws
              (subst (λ n. Reads t.source n (payload_limit limits) [] t) (ap (λ u. u.taken) on)
              (g.laws.again t (payload_limit limits) (ap (λ u. u.phase) on)))
              (ap (λ u. u.phase) on) (ap (λ u. u.limits) on ∙ g.so_far.checked.read_limits) ready;
          told = tt;
        };
        heard = subst (hears first now) (sym (append-nil (g.earlier ++ g.last))) g.heard;
      })

  -- the source is at its end
  pub accepts_row : e ≡ ToTheEnd → (t : ReaderState) {number : ℕ} {imports all : List Asked}
      {n : SessionView} → StepsAgain s (Ok false) t → number ≡ pickles + 1
      → all ≡ moved_apart loading.memo apart v.machine.imports
      → n ≡ record { frame = 0; machine = restarted loading.memo v.machine }
      → imports ≡ listed_in loading.memo all n.machine.imports
      → Accepted s.taken number imports t.source
  accepts_row is t (within, takes, ends) one_more lists restarts mine =
      let row = row_here takes nothing_known lists in
      let a = row_accepted g.laws.taking row (omega arith) ends.0 within
      (mine ∙ all_listed loading.memo _ _ these row.listed
      (ap (λ w. w.machine.imports) restarts ∙ ready.imports)) in
      record {
        reports = g.earlier ++ g.last;
        right = rw (is, one_more) (
          a.0,
          subst (λ x. AreReportsOf holding loading [] x (g.earlier ++ g.last)) (sym a.1)
              told_of_these,
        );
        told = g.heard;
        counts = takes.count ∙ none_failed_here;
      }

  -- it is unknown whether another pickle begins
  pub refused_again : e ≡ ToTheEnd → {t : ReaderState} {number : ℕ} {x : ReadRefusal}
      → IsRefusedBehind s t x → number ≡ pickles + 1
      → RefusedNow holding loading policy limits old e hears first number x.at x.reason None []
      t.source now
  refused_again is {t} {number} {x} h one_more =
      let row = row_here (g.laws.taking.none s.source) nothing_known refl in
      let r = refused_behind g.so_far.checked.laws g.laws.again g.laws.behind s t x
      g.so_far.checked.read_limits ready h in
      let y = subst (λ k. (r : RefusedFrom k loading.old_strings (begins loading.memo these)
      policy limits s.source t.source x.at x.reason None)
      × (r.instructions ++ refused_instruction r.why ≡ [])
      × ImportsBefore loading.old_strings (begins loading.memo these) r.instructions [])
      row.from_is r in
      record {
        reports = g.earlier ++ g.last;
        right = rw (is, one_more) (record {
          right = record {
            before = these;
            number = row.number;
            here = s.source;
            each = row.each;
            refused = y.0;
            more = λ cut. absurd (behind_is_not_cut s t x h cut);
          };
          imported = y.2;
          earlier = g.earlier ++ g.last;
          last = [];
          all = sym (append-nil (g.earlier ++ g.last));
          of_pickles = told_of_these;
          behind = subst (λ z. AreReportsBehind holding loading.old_strings
              (begins loading.memo these) (length (bytes_of_all these)) [] z []) (sym y.1) tt;
        });
        told = g.heard;
        counts = subst (λ f. CountsAt x.reason f t.source.failures) none_failed_here
            (behind_counts s t x h g.laws.behind);
      }
