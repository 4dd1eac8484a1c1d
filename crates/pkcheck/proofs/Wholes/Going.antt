-- What is known along the loop of a check, and the answers at which it may end.
use Rattle.std.proofs.Common.{◌≡◌, ◌≢◌, ℕ, List, [], ◌∷◌, ◌++◌, Option, true, false, length, refl}
use Rattle.std.proofs.Common.{Ok, Err}
use Rattle.std.specs.Prelude.{⊤, Bool}
use Rattle.pkops.specs.Limits.{Bounds}
use Rattle.pkops.specs.Spelling.{Instruction}
use Rattle.pkops.specs.declared.Reason.{Reason}
use Rattle.pkread.specs.Again.{NoByteIsRefused}
use Rattle.pkread.specs.Core.{Ended, Open, Phase, Refused as HasRefused}
use Rattle.pkread.specs.ReaderCalls.{ReaderState, is_ended}
use Rattle.pkread.specs.Rows.{Sight, TakingLaws}
use Rattle.pkread.specs.Run.{EndOfHeads, HeadIsRead, LentIsRead, NextIsRead, PassedIsRead}
use Rattle.pkread.specs.Run.{ReadingGoesOn, RefusalIsRead, RefusalOfHeads, SoFar, TakingTwice}
use Rattle.pkread.specs.Sequence.{CountsAt}
use Rattle.pkimport.specs.Import.{Asked}
use Rattle.pkmachine.specs.Knowledge.{Policy}
use Rattle.pkmachine.specs.RowRuns.{Pickle, listed_before}
use Rattle.pkmachine.specs.StepLaws.{IsBounded}
use Rattle.pkcheck.specs.Private.Judgement.{IsNoAt, SessionView}
use Rattle.pkcheck.specs.Reports.{Report}
use Rattle.pkcheck.specs.RowOfPickles.{HasMore}
use Rattle.pkcheck.specs.ThreeEnds.{AcceptedAndTold, AnswersTold, AreReportsOf, CountsTold}
use Rattle.pkcheck.specs.ThreeEnds.{RefusedAndTold, StoppedAndTold, StopsTold}
use Rattle.pkcheck.specs.declared.row_of_pickles.YesAll.{YesAll}
use Rattle.pkcheck.specs.declared.check_loop.Extent.{Extent}
use Rattle.pkcheck.specs.declared.check_loop.Extent.TheVariants.{OnePickle, ToTheEnd}
use Rattle.pkcheck.specs.declared.check_loop.RefusedPickle.{RefusedPickle}
use Rattle.pkcheck.specs.declared.loading.Loading.{Loading}
use Rattle.pkcheck.proofs.Wholes.HeardInstructions.{Told}
use Rattle.pkcheck.proofs.Wholes.Origins.{Origin}
use Rattle.pkcheck.proofs.Wholes.RowOfPickles.{RowSoFar, none_failed}

-- what the loop knows of its reader
pub record Laws : Type 0 where
  pub lent : LentIsRead
  pub twice : TakingTwice
  pub nexts : NextIsRead
  pub heads : HeadIsRead
  pub passed : PassedIsRead
  pub refused_nexts : RefusalIsRead
  pub refused_heads : RefusalOfHeads
  pub ended : EndOfHeads
  pub again : ReadingGoesOn
  pub behind : NoByteIsRefused
  pub taking : TakingLaws

-- nothing comes before a pickle that is alone
abbrev pub IsAlone : Extent → Sight → Sight → List Pickle → Type 0
IsAlone ToTheEnd old here before = ⊤
IsAlone OnePickle old here before = (here ≡ old) × (before ≡ [])

pub alone_first : (e : Extent) (old : Sight) → IsAlone e old old []
alone_first ToTheEnd old = tt
alone_first OnePickle old = (refl, refl)

pub alone_in_row : (e : Extent) (old here : Sight) (before : List Pickle) → e ≡ ToTheEnd
    → IsAlone e old here before
alone_in_row ToTheEnd old here before e = tt
alone_in_row OnePickle old here before e = absurd cc

pub phase_open : (p : List Instruction) (f : Phase) → SoFar p f → is_ended f ≡ false → f ≡ Open
phase_open p Open so e = refl
phase_open p Ended so e = absurd cc
phase_open p (HasRefused r) so e = absurd so

pub phase_ended : (f : Phase) → is_ended f ≡ true → f ≡ Ended
phase_ended Ended e = refl
phase_ended _ e = absurd cc

module _ (holding : Bool) (loading : Loading) (policy : Policy) (limits : Bounds) (old : Sight)
    (e : Extent) {A : Type 0} (hears : A → A → List Report → Type 0) (first : A) where
  -- what is known after each instruction
  pub record Going (pickles : ℕ) (apart : List Asked) (kept : ℕ) (s : ReaderState)
      (v : SessionView) (now : A) : Type 0 where
    pub laws : Laws
    pub one : holding ≡ true → limits.passed ≡ limits.counted
    pub law : (x y z : A) (rs : List Report) (r : Report) → hears x y rs → hears y z (r ∷ [])
        → hears x z (rs ++ r ∷ [])
    pub bounded : IsBounded policy
    pub here : Sight
    pub origin : Origin
    pub before : List Pickle
    pub row : RowSoFar loading policy limits old here origin pickles apart before
    -- so many of the machine's imports are those of earlier pickles
    pub own : kept ≡ length (listed_before origin.beginning)
    pub more : before ≢ [] → HasMore here
    pub alone : IsAlone e old here before
    pub earlier : List Report
    pub of_pickles : AreReportsOf holding loading [] before earlier
    pub last : List Report
    pub so_far : Told holding loading.old_strings policy limits here origin s v last
    pub heard : hears first now (earlier ++ last)

  -- the right answer for a refusal
  pub record RefusedNow (pickles at : ℕ) (why : Reason) (pair : Option Asked) (imports : List Asked)
      (new : Sight) (now : A) : Type 0 where
    pub reports : List Report
    pub right : RefusedAndTold holding loading policy limits old new e pickles at why pair imports
        reports
    pub told : hears first now reports
    pub counts : CountsAt why old.failures new.failures

  -- the right answer if the audience fails
  pub record StoppedNow {X : Type 0} (fails : A → A → Report → X → Type 0) (now : A) (error : X)
      (new : Sight) : Type 0 where
    pub reports : List Report
    pub failed : Report
    pub between : A
    pub right : StoppedAndTold holding loading policy limits old new e reports failed
    pub told : hears first between reports
    pub left : fails between now failed error
    pub counts : new.failures ≡ old.failures

  -- the right answer for what is accepted
  pub record AcceptedNow (taken number : ℕ) (imports : List Asked) (new : Sight) (now : A)
      : Type 0 where
    pub reports : List Report
    pub right : AcceptedAndTold holding loading policy limits old new e taken number imports reports
    pub told : hears first now reports
    pub counts : new.failures ≡ old.failures

module _ {holding : Bool} {loading : Loading} {policy : Policy} {limits : Bounds} {old : Sight}
    {e : Extent} {A : Type 0} {hears : A → A → List Report → Type 0} {first : A} where
  -- the answer says what was found
  pub refused_as : {pickles at : ℕ} {why : Reason} {pair : Option Asked} {imports : List Asked}
      {new : Sight} {now : A}
      → RefusedNow holding loading policy limits old e hears first pickles at why pair imports new
      now → {here : Sight} → here ≡ new → (answer : RefusedPickle)
      → answer.pickle ≡ pickles → IsNoAt at why pair answer.no → answer.imports ≡ imports
      → AnswersTold holding loading policy limits old here hears first now e (Err answer)
      × CountsTold old.failures here.failures (Err answer)
  refused_as x seen answer number says imports =
      rw (seen, number, says.place, says.why, says.pair, imports)
      ((x.reports, x.right, x.told), x.counts)

  pub accepted_as : {taken number : ℕ} {imports : List Asked} {new : Sight} {now : A}
      → AcceptedNow holding loading policy limits old e hears first taken number imports new now
      → {here : Sight} → here ≡ new → (answer : YesAll)
      → answer.taken ≡ taken → answer.pickles ≡ number → answer.imports ≡ imports
      → AnswersTold holding loading policy limits old here hears first now e (Ok answer)
      × CountsTold old.failures here.failures (Ok answer)
  accepted_as x seen answer count number imports =
      rw (seen, count, number, imports) ((x.reports, x.right, x.told), x.counts)

  pub stopped_as : {X : Type 0} {fails : A → A → Report → X → Type 0} {now : A} {error : X}
      {new : Sight}
      → StoppedNow holding loading policy limits old e hears first fails now error new
      → {here : Sight} → here ≡ new
      → StopsTold holding loading policy limits old here hears fails first now e error
      × (here.failures ≡ old.failures)
  stopped_as x seen =
      rw seen ((x.reports, x.failed, x.between, x.right, x.told, x.left), x.counts)

  -- no read failed before this pickle
  pub none_before_it : {pickles : ℕ} {apart : List Asked} {kept : ℕ} {s : ReaderState}
      {v : SessionView} {now : A}
      (g : Going holding loading policy limits old e hears first pickles apart kept s v now)
      → g.here.failures ≡ old.failures
  none_before_it g = none_failed g.laws.taking g.row
