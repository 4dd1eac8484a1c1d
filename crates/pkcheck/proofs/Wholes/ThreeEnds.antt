-- The three ends of a check, for the pickle that is being read.
use Rattle.std.proofs.Common.{◌≡◌, ◌+◌, ℕ, List, [], ◌∷◌, ◌++◌, length, Option, drop, refl, sym, ap}
use Rattle.std.proofs.Common.{subst, ◌∙◌, arith, append-nil, append_assoc}
use Rattle.std.proofs.Math.Seq.{drop-append_seam}
use Rattle.std.specs.Prelude.{Bool}
use Rattle.pkops.specs.Limits.{Bounds}
use Rattle.pkops.specs.Payloads.{payload_limit}
use Rattle.pkops.specs.Spelling.{Instruction}
use Rattle.pkops.specs.declared.Reason.{Reason}
use Rattle.pkread.specs.ReaderCalls.{ReaderState}
use Rattle.pkread.specs.Rows.{Sight}
use Rattle.pkread.specs.Sequence.{CountsAt, IsSequence, NoStop}
use Rattle.pkimport.specs.Import.{Asked}
use Rattle.pkmachine.specs.Knowledge.{Policy}
use Rattle.pkmachine.specs.RowRuns.{Beginning, Pickle, listed_before}
use Rattle.pkmachine.specs.View.{View}
use Rattle.pkcheck.specs.Accepted.{AcceptedFrom}
use Rattle.pkcheck.specs.Heard.{refused_instruction}
use Rattle.pkcheck.specs.Listing.{imports_among}
use Rattle.pkcheck.specs.Private.Judgement.{SessionView}
use Rattle.pkcheck.specs.Reports.{AreReportsBehind, IsReportOf, Report}
use Rattle.pkcheck.specs.RowOfPickles.{begins, bytes_of_all}
use Rattle.pkcheck.specs.ThreeEnds.{AcceptedAndTold, AreReportsOf, RefusedAndTold, StoppedAndTold}
use Rattle.pkcheck.specs.ThreeEnds.{StoppedFrom}
use Rattle.pkcheck.specs.WithImports.{ImportsBefore, RefusedWithImports}
use Rattle.pkcheck.specs.declared.check_loop.Extent.{Extent}
use Rattle.pkcheck.specs.declared.check_loop.Extent.TheVariants.{OnePickle, ToTheEnd}
use Rattle.pkcheck.specs.declared.loading.Loading.{Loading}
use Rattle.pkcheck.proofs.Wholes.Checked.{RefusedAfter, accepted, faultless_here}
use Rattle.pkcheck.proofs.Wholes.Given.{Took}
use Rattle.pkcheck.proofs.Wholes.Going.{Going, IsAlone, RefusedNow, StoppedNow, none_before_it}
use Rattle.pkcheck.proofs.Wholes.HeardInstructions.{Told}
use Rattle.pkcheck.proofs.Wholes.ImportsBefore.{imports_before}
use Rattle.pkcheck.proofs.Wholes.RowOfPickles.{none_before}

-- one more pickle was told of
pub reports_more : (holding : Bool) (loading : Loading) (done xs : List Pickle) (x : Pickle)
    (rs last : List Report) → AreReportsOf holding loading done xs rs
    → AreReportsBehind holding loading.old_strings (begins loading.memo (done ++ xs))
    (length (bytes_of_all (done ++ xs))) [] x.instructions last
    → AreReportsOf holding loading done (xs ++ x ∷ []) (rs ++ last)
reports_more holding loading done [] x rs last none h = rw none (
  last,
  [],
  sym (append-nil last),
  subst (λ d. AreReportsBehind holding loading.old_strings (begins loading.memo d)
      (length (bytes_of_all d)) [] x.instructions last) (append-nil done) h,
  refl,
)
reports_more holding loading done (y ∷ ys) x rs last (first, others, all, one, more) h = (
  first,
  others ++ last,
  ap (λ z. z ++ last) all ∙ append_assoc first others last,
  one,
  reports_more holding loading (done ++ y ∷ []) ys x others last more
      (subst (λ d. AreReportsBehind holding loading.old_strings (begins loading.memo d)
      (length (bytes_of_all d)) [] x.instructions last) (sym (append_assoc done (y ∷ []) ys)) h),
)

module _ {holding : Bool} {loading : Loading} {policy : Policy} {limits : Bounds} {old : Sight}
    {e : Extent} {A : Type 0} {hears : A → A → List Report → Type 0} {first : A} {pickles : ℕ}
    {apart : List Asked} {kept : ℕ} {s : ReaderState} {v : SessionView} {now : A}
    (g : Going holding loading policy limits old e hears first pickles apart kept s v now) where
  -- whatever is known of the pickle is known of it as the first, if it is alone
  as_first : (F : ℕ → Beginning → Sight → List Report → Type 0)
      → (g.here ≡ old) × (g.before ≡ []) → (last : List Report)
      → F g.origin.at g.origin.beginning g.here last
      → F 0 (begins loading.memo []) old (g.earlier ++ last)
  as_first F (is, none) last x =
      let at : g.origin.at ≡ 0 = g.row.from_is ∙ ap (λ b. length (bytes_of_all b)) none in
      let begin = g.row.begins ∙ ap (begins loading.memo) none in
      let e : g.earlier ≡ [] =
      subst (λ b. AreReportsOf holding loading [] b g.earlier) none g.of_pickles in
      subst (F 0 (begins loading.memo []) old) (sym (ap (λ z. z ++ last) e))
      (subst (λ o. F 0 (begins loading.memo []) o last) is
      (subst (λ b. F 0 b g.here last) begin
      (subst (λ n. F n g.origin.beginning g.here last) at x)))

  -- or as the one behind the pickles before
  pub as_next : (F : ℕ → Beginning → Type 0) → F g.origin.at g.origin.beginning
      → F (length (bytes_of_all g.before)) (begins loading.memo g.before)
  as_next F x = subst (F (length (bytes_of_all g.before))) g.row.begins
      (subst (λ n. F n g.origin.beginning) g.row.from_is x)

  abbrev Behind : List Instruction → List Report → Type 0
  Behind q last =
      AreReportsBehind holding loading.old_strings g.origin.beginning g.origin.at [] q last

  module _ {between : ReaderState} {u : SessionView} {hs : List Report}
      (w : Told holding loading.old_strings policy limits g.here g.origin between u hs) where
    -- the imports of the pickle that is being read
    own_imports : (n : View) → n.imports ≡ u.machine.imports
        → drop kept n.imports ≡ imports_among w.asked
    own_imports n same =
        let before = listed_before g.origin.beginning in
        ap (drop kept) (same ∙ w.checked.imports)
        ∙ (ap (λ n. drop n (before ++ imports_among w.asked)) g.own
        ∙ drop-append_seam before (imports_among w.asked))

    abbrev RefusedHere : ℕ → Beginning → Sight → ℕ → Reason → Option Asked → Sight
        → List Report → Type 0
    RefusedHere from b here at why pair new last =
        (r : RefusedWithImports from loading.old_strings b policy limits here new at why pair
        (imports_among w.asked)) × AreReportsBehind holding loading.old_strings b from []
        (r.refused.instructions ++ refused_instruction r.refused.why) last

    -- the pickle that begins here is refused
    refused_told : (x : Extent) → IsAlone x old g.here g.before → (at : ℕ) (why : Reason)
        (pair : Option Asked) (new : Sight) (last : List Report)
        → RefusedHere g.origin.at g.origin.beginning g.here at why pair new last
        → RefusedAndTold holding loading policy limits old new x pickles at why pair
        (imports_among w.asked) (g.earlier ++ last)
    refused_told ToTheEnd alone at why pair new last h =
        let r = as_next (λ n b. RefusedHere n b g.here at why pair new last) h in
        record {
          right = record {
            before = g.before;
            number = g.row.number;
            here = g.here;
            each = g.row.each;
            refused = r.0.refused;
            more = λ is ne. g.more ne;
          };
          imported = r.0.before;
          earlier = g.earlier;
          last = last;
          all = refl;
          of_pickles = g.of_pickles;
          behind = r.1;
        }
    refused_told OnePickle alone at why pair new last h =
        let r = as_first (λ n b o rs. RefusedHere n b o at why pair new rs) alone last h in
        (r.0, r.1, g.row.number ∙ ap length alone.1)

    pub refused_now : {at : ℕ} {why : Reason} {pair : Option Asked} {new : Sight}
        {q : List Instruction} → RefusedAfter w.checked at why pair new q
        → CountsAt why g.here.failures new.failures → (n : View)
        → n.imports ≡ u.machine.imports → (last : List Report) → Behind q last → {behind : A}
        → hears first behind (g.earlier ++ last)
        → RefusedNow holding loading policy limits old e hears first pickles at why pair
        (drop kept n.imports) new behind
    refused_now {at} {why} {pair} {new} r counts n same last told heard =
        let imports = subst (λ x. ImportsBefore loading.old_strings g.origin.beginning x
        (imports_among w.asked)) (sym r.2)
        (imports_before w.checked (subst NoStop r.2 r.0.goes_on)) in
        record {
          reports = g.earlier ++ last;
          right = subst (λ l. RefusedAndTold holding loading policy limits old new e pickles at why
              pair l (g.earlier ++ last)) (sym (own_imports n same))
              (refused_told e g.alone at why pair new last (
                record { refused = r.0; before = imports },
                subst (λ z. Behind z last) (sym r.1) told,
              ));
          told = heard;
          counts = subst (λ f. CountsAt why f new.failures) (none_before_it g) counts;
        }

    -- the audience failed at this instruction
    module _ {t : ReaderState} {at : ℕ} {i : Instruction}
        (took : Took g.here g.origin.at limits w.read between at i t) {failed : Report}
        (told : IsReportOf holding loading.old_strings g.origin.beginning g.origin.at w.read i
        failed) where
      abbrev Stopped : ℕ → Beginning → Sight → List Report → Type 0
      Stopped n b o rs = (f : StoppedFrom loading.old_strings b policy limits o t.source)
          × AreReportsBehind holding loading.old_strings b n [] f.instructions rs
          × IsReportOf holding loading.old_strings b n f.instructions f.instruction failed

      stopped_from : Stopped g.origin.at g.origin.beginning g.here hs
      stopped_from = (
        record {
          instructions = w.read;
          instruction = i;
          goes_on = took.more.no_stop;
          admitted = took.more.reads.each;
          bytes = took.more.reads.bytes;
          framed = w.checked.laws.frames.all w.read u.frame w.checked.frames;
          faultless = faultless_here w.checked took.more.no_stop;
        },
        w.told,
        told,
      )

      stopped_told : (x : Extent) → IsAlone x old g.here g.before
          → StoppedAndTold holding loading policy limits old t.source x (g.earlier ++ hs) failed
      stopped_told ToTheEnd alone =
          let x = as_next (λ n b. Stopped n b g.here hs) stopped_from in
          record {
            before = g.before;
            here = g.here;
            each = g.row.each;
            stopped = x.0;
            earlier = g.earlier;
            last = hs;
            all = refl;
            of_pickles = g.of_pickles;
            behind = x.1;
            at_last = x.2;
          }
      stopped_told OnePickle alone = as_first Stopped alone hs stopped_from

      pub stopped_now : {before_it : A} → hears first before_it (g.earlier ++ hs) → {X : Type 0}
          (fails : A → A → Report → X → Type 0) {behind : A} {error : X}
          → fails before_it behind failed error
          → StoppedNow holding loading policy limits old e hears first fails behind error t.source
      stopped_now {before_it} heard fails left = record {
        reports = g.earlier ++ hs;
        failed = failed;
        between = before_it;
        right = stopped_told e g.alone;
        told = heard;
        left = left;
        counts = took.more.reads.bytes.count ∙ none_before_it g;
      }

  -- the pickle that is alone is accepted
  pub alone_told : (g.here ≡ old) × (g.before ≡ [])
      → IsSequence (payload_limit limits) g.so_far.read
      → AcceptedAndTold holding loading policy limits old s.source OnePickle s.taken 1
      v.machine.imports (g.earlier ++ g.last)
  alone_told alone sequence =
      let w = g.so_far in
      let at : g.origin.at ≡ 0 = g.row.from_is ∙ ap (λ b. length (bytes_of_all b)) alone.1 in
      let count : s.taken ≡ g.origin.at + s.taken = omega (arith, at) in
      let a = accepted w.checked sequence count in
      let own = w.checked.imports ∙ ap (λ l. l ++ imports_among w.asked) (ap listed_before
      (g.row.begins ∙ ap (begins loading.memo) alone.1) ∙ none_before loading.memo) in
      let told = as_first (λ n b o rs. (right : AcceptedFrom loading.old_strings b policy limits o
      s.source s.taken (imports_among w.asked)) × AreReportsBehind holding loading.old_strings b n
      [] right.instructions rs) alone g.last
      (a.0, subst (λ z. Behind z g.last) (sym a.1) w.told) in
      rw own (told.0, told.1, refl)
