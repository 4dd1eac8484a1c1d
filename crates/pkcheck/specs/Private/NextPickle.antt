-- What is kept for the next pickle of a row.
use Rattle.std.specs.Prelude.{◌≡◌, ℕ, ◌+◌, Bool, IfErr, IfOk, List, [], None, Ok, OnErr, OnOk}
use Rattle.std.specs.Prelude.{Option, Result}
use Rattle.pkops.specs.declared.Refusal.{Refusal}
use Rattle.pkread.specs.Again.{StepsAgain, TakesOneAhead, WhyNoByte}
use Rattle.pkread.specs.Core.{CoreView}
use Rattle.pkread.specs.ReaderCalls.{KeepsSource, ReaderState, state}
use Rattle.pkread.specs.declared.reader.Reader.{Reader}
use Rattle.pkcheck.specs.declared.row_of_pickles.PickleRow.{PickleRow}
use Rattle.pkcheck.specs.Private.Judgement.{SessionView}
use Rattle.pkmachine.specs.declared.memo.Memo.{Memo}
use Rattle.pkmachine.specs.declared.memo.Memo.TheVariants.{Fresh, Kept}
use Rattle.pkimport.specs.Import.{Asked}
use Rattle.pkmachine.specs.RowRuns.{Pickle, imports_of_all}
use Rattle.pkmachine.specs.View.{moved_apart, restarted}

-- the imports outside the machine after these pickles
abbrev pub listed_apart : Memo → List Pickle → List Asked
listed_apart Fresh before = imports_of_all before
listed_apart Kept before = []

-- the imports of a row, which are outside the machine or inside it
abbrev pub listed_in : Memo → List Asked → List Asked → List Asked
listed_in Fresh apart own = apart
listed_in Kept apart own = own

-- one more pickle is counted, and its imports are moved outside the machine, if they are
pub record IsCounted (old : PickleRow) (imports : List Asked) (new : PickleRow)
    (answer : Result Bool Refusal) : Type 0 where
  pub memo : new.memo ≡ old.memo
  pub extent : new.extent ≡ old.extent
  pub number : new.pickles ≡ old.pickles + 1
  pub apart : OnOk answer (new.apart.asked ≡ moved_apart old.memo old.apart.asked imports)

-- the session is ready for another pickle; after a refusal, no pair is off the list
pub record IsRestarted (memo : Memo) (old new : SessionView) (answer : Result Bool Refusal)
    : Type 0 where
  pub ready : OnOk answer (new ≡ record { frame = 0; machine = restarted memo old.machine })
  pub off : OnErr answer (new.machine.off ≡ None)

-- the refusal of a pickle of which no byte was taken
pub record IsRefusedBehind (old new : ReaderState) (refusal : Refusal) : Type 0 where
  pub place : refusal.at ≡ old.taken
  pub why : WhyNoByte old.source new.source old.taken refusal.reason

-- the reader was asked whether another pickle begins, or an allocation was refused before
pub record LooksBehind {R : Type 0} (left : R → Option (List ℕ)) (failures : R → ℕ)
    (old new : Reader R CoreView) (answer : Result Bool Refusal) : Type 0 where
  pub source : KeepsSource old new
  pub steps : IfOk answer (λ more. StepsAgain (state left failures old) (Ok more)
      (state left failures new))
  pub refused : IfErr answer (IsRefusedBehind (state left failures old) (state left failures new))
  pub ahead : TakesOneAhead left failures old answer new
