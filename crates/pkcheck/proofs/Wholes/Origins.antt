-- Where the runs of a pickle begin, and what is known there.
use Rattle.pkmachine.specs.declared.old_strings.OldStrings.{OldStrings}
use Rattle.std.proofs.Common.{◌≡◌, ℕ, List, [], Some, refl, sym, ap, subst}
use Rattle.std.specs.Prelude.{All}
use Rattle.std.proofs.lemmas.List.Elements.{All-nil}
use Rattle.std.proofs.lemmas.Str.{IsUtf8-nil}
use Rattle.pkops.specs.Spelling.{Instruction}
use Rattle.pkmachine.specs.Covers.{Covers, Pointwise, imports_of}
use Rattle.pkmachine.specs.Witnesses.{Answered, CoversBy, Stands, Word}
use Rattle.pkmachine.specs.Knowledge.{Knowledge, Policy, nothing_known}
use Rattle.pkcheck.specs.Listing.{StandsFor, permitted_by}
use Rattle.pkmachine.specs.RowRuns.{Afresh, Arrives, Beginning, Behind, CanArrive, CanComeTo}
use Rattle.pkmachine.specs.RowRuns.{ComesTo, InEachRunFrom, listed_before, RunsFrom}
use Rattle.pkmachine.specs.Runs.{CanCome, Outcome, State, start}
use Rattle.pkmachine.specs.WholeRuns.{AllListed, CanGetTo, Ended, GetsTo, run_as}
use Rattle.pkcheck.proofs.Wholes.RunSteps.{same_some}
use Rattle.pkcheck.proofs.Wholes.Walk.{Along}

-- the empty text
abbrev pub empty : Word
empty = record { text = []; utf8 = IsUtf8-nil }

-- the offset of the first byte of a pickle, where its runs begin, and what is known there
pub record Origin : Type 0 where
  pub at : ℕ
  pub beginning : Beginning
  pub known : Knowledge

-- the origin of a single pickle
abbrev pub alone : Origin
alone = record { at = 0; beginning = Afresh; known = nothing_known }

module _ (setting : OldStrings) where
  -- the states in which the runs begin
  abbrev pub StartsIn : Beginning → State → Type 0
  StartsIn Afresh s = s ≡ start
  StartsIn (Behind before) s = ComesTo setting before s

  -- like StartsIn, for runs with only possible outcomes
  abbrev pub CanStartIn : Beginning → State → Type 0
  CanStartIn Afresh s = s ≡ start
  CanStartIn (Behind before) s = CanComeTo setting before s

  -- what is known where the runs begin
  pub record Begins (policy : Policy) (b : Beginning) (known : Knowledge) : Type 0 where
    pub each : (s : State) → StartsIn b s → Covers known s
    pub some : (v : Word) → (s : State) × CanStartIn b s × CoversBy (Answered v.text) known s
    pub permitted : (s : State) → StartsIn b s → AllListed (permitted_by policy)
        (imports_of s.events)
    pub listed : (s : State) → StartsIn b s → Pointwise StandsFor (listed_before b)
        (imports_of s.events)

  -- a run that reaches an instruction began in one of these states
  pub arrived : (b : Beginning) (before : List Instruction) (t : State) → Arrives setting b before t
      → (s : State) × StartsIn b s × GetsTo setting before s t
  arrived Afresh before t h = (start, refl, h)
  arrived (Behind pickles) before t h = h

  arrives : (b : Beginning) (before : List Instruction) (s t : State) → CanStartIn b s
      → CanGetTo setting before s t → CanArrive setting b before t
  arrives Afresh before s t e h = subst (λ x. CanGetTo setting before x t) e h
  arrives (Behind pickles) before s t c h = (s, c, h)

  pub any_arrives : (b : Beginning) (before : List Instruction) (t : State)
      → CanArrive setting b before t → Arrives setting b before t
  any_arrives Afresh before t h = (h.0, h.2)
  any_arrives (Behind pickles) before t h = (h.0, (h.1.0, h.1.2), (h.2.0, h.2.2))

  -- a property of each run from these states
  pub in_each : (b : Beginning) (p : List Instruction) (Holds : Ended → Type 0)
      → ((s : State) (os : List Outcome) → StartsIn b s → Holds (run_as setting p os s))
      → InEachRunFrom setting b p Holds
  in_each Afresh p Holds h = λ os. h start os refl
  in_each (Behind pickles) p Holds h = h

module _ {setting : OldStrings} {policy : Policy} where
  -- at the start, nothing is known
  pub begins_afresh : Begins setting policy Afresh nothing_known
  begins_afresh = record {
    each = λ s e. subst (Covers nothing_known) (sym e) (record { entries = tt; memo = tt });
    some = λ v. (start, refl, record { entries = tt; memo = tt });
    permitted = λ s e. subst (λ x. AllListed (permitted_by policy) (imports_of x.events))
        (sym e) tt;
    listed = λ s e. subst (λ x. Pointwise StandsFor [] (imports_of x.events)) (sym e) tt;
  }

  -- behind no pickles, runs begin as those of a pickle that is alone
  pub begins_row : {known : Knowledge} → Begins setting policy Afresh known
      → Begins setting policy (Behind []) known
  begins_row h = record {
    each = λ s w. h.each s (sym (same_some start s w.1));
    some = λ v. let w = h.some v in (w.0, ([], All-nil (All CanCome), ap Some (sym w.1)), w.2);
    permitted = λ s w. h.permitted s (sym (same_some start s w.1));
    listed = λ s w. h.listed s (sym (same_some start s w.1));
  }

  -- what is known along instructions stands for the runs that get past them
  pub stands_from : {b : Beginning} {before : List Instruction} {first known : Knowledge}
      → Begins setting policy b first → Along setting before first known
      → Stands known (RunsFrom setting b before)
  stands_from {b = b} {before = before} h a = record {
    each = λ t g. let w = arrived setting b before t g in a.each w.0 t (h.each w.0 w.1) w.2;
    real = λ t g. any_arrives setting b before t g;
    answers = λ v n. v.utf8;
    some = λ v. let w = h.some v in let m = a.some v w.0 w.2 in
        (m.0, arrives setting b before w.0 m.0 w.1 m.1, m.2);
  }
