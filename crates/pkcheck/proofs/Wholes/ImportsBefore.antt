-- The imports of the instructions before a refusal.
use Rattle.pkmachine.specs.declared.old_strings.OldStrings.{OldStrings}
use Rattle.std.proofs.Common.{◌≡◌, refl, ℕ, List, ◌++◌, Option, inl, inr, sym, ap, subst}
use Rattle.std.proofs.Common.{append-nil}
use Rattle.pkops.specs.Limits.{Bounds}
use Rattle.pkops.specs.Spelling.{Instruction}
use Rattle.pkops.specs.declared.Reason.{Reason}
use Rattle.pkread.specs.ReaderCalls.{ReaderState}
use Rattle.pkread.specs.Rows.{Sight}
use Rattle.pkread.specs.Sequence.{NoStop}
use Rattle.pkmachine.specs.Covers.{Covers}
use Rattle.pkmachine.specs.StepLaws.{StepLaws}
use Rattle.pkimport.specs.Import.{Asked, asks_more}
use Rattle.pkmachine.specs.Knowledge.{Knowledge, Policy}
use Rattle.pkcheck.specs.Listing.{imports_among}
use Rattle.pkcheck.specs.Private.Judgement.{IsRefused, SessionView}
use Rattle.pkmachine.specs.RowRuns.{listed_before}
use Rattle.pkmachine.specs.Runs.{Outcome, State, step_as}
use Rattle.pkmachine.specs.View.{View}
use Rattle.pkmachine.specs.WholeRuns.{Reached, first_outcome, run_as}
use Rattle.pkcheck.specs.WithImports.{HasImported, ImportsBefore}
use Rattle.pkcheck.proofs.Wholes.Stops.{nowhere_last, stops_nowhere}
use Rattle.pkcheck.proofs.Wholes.Checked.{Checked, known_behind, listed_in_each}
use Rattle.pkcheck.proofs.Wholes.Faultless.{each_asks, length-asked, unknown_is_open}
use Rattle.pkcheck.proofs.Wholes.Listed.{adds_stands, more_among}
use Rattle.pkcheck.proofs.Wholes.Origins.{Origin, arrived, empty}
use Rattle.pkcheck.proofs.Wholes.RunSteps.{gets_past, same_reached}
use Rattle.pkcheck.proofs.Wholes.Walk.{Accepts, accepts_first, accepts_none}

-- a run that gets past these instructions has made the listed imports, after those made before
reached_from : StepLaws → {setting : OldStrings} {p : Policy} {l : Bounds}
    {is : List Instruction} {k known : Knowledge} {asked : List (Option Asked)} (done : List Asked)
    (s t : State) (os : List Outcome) → Accepts setting p l is k known asked → Covers k s
    → HasImported done s → run_as setting is os s ≡ Reached t
    → HasImported (done ++ imports_among asked) t
reached_from laws done s t os accepts_none c had g =
    subst (λ x. HasImported x t) (sym (append-nil done))
    (subst (HasImported done) (same_reached s t g) had)
reached_from laws {setting} {p} {l} done s t os (accepts_first {i = i} {is = is} {k = k} q e h) c
    had g =
    let o = first_outcome os in
    let (u, d, adds, on) = gets_past q s (step_as setting i s o) (run_as setting is _) t
    (laws.sound setting p l i k q e s o c) g in
    subst (λ x. HasImported x t) (more_among q.import done _)
    (reached_from laws (asks_more q.import done) u t _ h d
    (adds_stands q.import done s.events u.events had adds) on)

-- a refused instruction adds no import
pub refused_imports : (policy : Policy) (i : Instruction) (frame : ℕ) (m n : View) (why : Reason)
    → IsRefused policy i frame m n why → n.imports ≡ m.imports
refused_imports policy i frame m n why (inl (e, becomes, is)) = ap (λ x. x.imports) becomes
refused_imports policy i frame m n why (inr (o, inl (f, e, is, becomes))) =
    ap (λ x. x.imports) becomes
refused_imports policy i frame m n why (inr (o, inr (wants, is, becomes))) =
    ap (λ x. x.imports) becomes

module _ {setting : OldStrings} {policy : Policy} {limits : Bounds} {old : Sight} {origin : Origin}
    {p : List Instruction} {asked : List (Option Asked)} {s : ReaderState} {v : SessionView}
    (h : Checked setting policy limits old origin p asked s v) where
  pub imports_before : NoStop p → ImportsBefore setting origin.beginning p (imports_among asked)
  imports_before none =
      let b = origin.beginning in
      let last = nowhere_last p (stops_nowhere p none) in
      let some = (known_behind h none).some empty in
      record {
        asked = asked;
        each = length-asked h.accepts;
        listed = refl;
        at_each = each_asks h.laws.steps h.begins h.accepts last;
        past = record {
          each = λ t g. let w = arrived setting b p t g in
              reached_from h.laws.steps (listed_before b) w.0 t w.2.0 h.accepts
              (h.begins.each w.0 w.1) (h.begins.listed w.0 w.1) w.2.1;
          some = (some.0, some.1);
        };
        imported = listed_in_each h last;
        unknown = unknown_is_open h.laws.steps h.begins h.accepts last;
      }
