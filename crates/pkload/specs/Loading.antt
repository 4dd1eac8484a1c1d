-- What an answer says about the cost of loading.
use Rattle.std.specs.Prelude.{◌≡◌, ◌++◌, ◌∷◌, [], ⊤, ℕ, List, Result, Ok, MatchResult}
use Rattle.std.specs.Prelude.{Option, None, Some, option_map}
use Rattle.pkops.specs.Limits.{Bounds}
use Rattle.pkops.specs.Spelling.{Instruction}
use Rattle.pkread.specs.Rows.{Sight}
use Rattle.pkread.specs.Sequence.{CountsAt}
use Rattle.pkcheck.specs.Accepted.{AcceptedFrom}
use Rattle.pkimport.specs.Import.{asked_shown}
use Rattle.pkmachine.specs.Knowledge.{Policy}
use Rattle.pkcheck.specs.NewRuns.{InEachNewRun}
use Rattle.pkcheck.specs.RowOfPickles.{AcceptedRow, RefusedInRow, begins}
use Rattle.pkmachine.specs.RowRuns.{Beginning, Pickle}
use Rattle.pkmachine.specs.Runs.{Raised, State, Stopped, Stuck, WentOn}
use Rattle.pkstack.specs.Shape.{and_then}
use Rattle.pkmachine.specs.WholeRuns.{Ended, EndedBy, Reached}
use Rattle.pkcheck.specs.WithImports.{RefusedWithImports}
use Rattle.pkcheck.specs.declared.check_loop.Extent.{Extent}
use Rattle.pkcheck.specs.declared.check_loop.Extent.TheVariants.{OnePickle, ToTheEnd}
use Rattle.pkcheck.specs.declared.check_loop.RefusedPickle.{RefusedPickle}
use Rattle.pkcheck.specs.declared.loading.Loading.{Loading}
use Rattle.pkmachine.specs.declared.old_strings.OldStrings.{OldStrings}
use Rattle.pkcheck.specs.declared.row_of_pickles.YesAll.{YesAll}
use Rattle.pkload.specs.Bill.{Bill, all_billed, bill_before}
use Rattle.pkload.specs.Tolls.{IsWithin, KeepsWithin}
use Rattle.pkload.specs.Weighed.{tally_since}
use Rattle.pkload.specs.declared.checking.YesWithBill.{YesWithBill}
use Rattle.pkload.specs.declared.tolls.Tolls.{Tolls}

-- the run isn't stuck. If it got to the end, its state has the one property; if it raised, the
-- other
abbrev pub EndsSo : (State → Type 0) → (State → Type 0) → Ended → Type 0
EndsSo Past Raising (Reached state) = Past state
EndsSo Past Raising (EndedBy (Stopped result state)) = Past state
EndsSo Past Raising (EndedBy (Raised state)) = Raising state
EndsSo Past Raising (EndedBy (WentOn state)) = ⊥
EndsSo Past Raising (EndedBy (Stuck breach)) = ⊥

-- what the events of a run count, after those of earlier pickles, is within the limits
abbrev pub EndsWithin : Tolls → ℕ → Ended → Type 0
EndsWithin tolls earlier =
    EndsSo (λ state. IsWithin tolls (tally_since earlier state.events))
    (λ state. IsWithin tolls (tally_since earlier state.events))

-- the bill of the instructions of a pickle that begins like this is within the limits, and so is
-- each of its runs whose answers are new objects
pub record CostsWithin (setting : OldStrings) (beginning : Beginning) (tolls : Tolls)
    (instructions : List Instruction) : Type 0 where
  pub bill : Bill
  pub billed : and_then (bill_before beginning) (all_billed instructions) ≡ Ok bill
  pub within : KeepsWithin tolls bill.tally bill.memory
  pub runs : InEachNewRun setting beginning instructions (EndsWithin tolls)

-- each of these pickles, which follow those before, keeps within the limits
abbrev pub KeepWithin : Loading → Tolls → List Pickle → List Pickle → Type 0
KeepWithin loading tolls before [] = ⊤
KeepWithin loading tolls before (pickle ∷ pickles) =
    CostsWithin loading.old_strings (begins loading.memo before) tolls pickle.instructions
    × KeepWithin loading tolls (before ++ pickle ∷ []) pickles

-- the instructions before the refused one keep within the limits
pub record StaysWithin (loading : Loading) (tolls : Tolls) (before : List Pickle)
    (instructions : List Instruction) : Type 0 where
  pub bill : Bill
  pub billed : and_then (bill_before (begins loading.memo before)) (all_billed instructions)
      ≡ Ok bill
  pub within : KeepsWithin tolls bill.tally bill.memory

-- the bill of the last of these pickles
abbrev pub last_bill : (loading : Loading) (tolls : Tolls) (before pickles : List Pickle)
    → KeepWithin loading tolls before pickles → Option Bill
last_bill loading tolls before [] kept = None
last_bill loading tolls before (pickle ∷ []) kept = Some kept.0.bill
last_bill loading tolls before (pickle ∷ next ∷ pickles) kept =
    last_bill loading tolls (before ++ pickle ∷ []) (next ∷ pickles) kept.1

module _ (loading : Loading) (policy : Policy) (limits : Bounds) (tolls : Tolls) (old new : Sight)
  where
    -- the pickles were accepted, and each keeps within the limits
    abbrev pub AcceptedWithin : Extent → YesAll → Type 0
    AcceptedWithin ToTheEnd accepted =
        (right : AcceptedRow loading policy limits old new accepted.taken accepted.pickles
        accepted.imports)
        × KeepWithin loading tolls [] right.row
    AcceptedWithin OnePickle accepted =
        (right : AcceptedFrom loading.old_strings (begins loading.memo []) policy limits old new
        accepted.taken accepted.imports)
        × CostsWithin loading.old_strings (begins loading.memo []) tolls right.instructions
        × (accepted.pickles ≡ 1)

    -- the bill of the last of the accepted pickles
    abbrev pub bill_of : (extent : Extent) (accepted : YesAll) → AcceptedWithin extent accepted
        → Option Bill
    bill_of ToTheEnd accepted right = last_bill loading tolls [] right.0.row right.1
    bill_of OnePickle accepted right = Some right.1.bill

    -- the pickles were accepted, each keeps within the limits, and this is the bill of the last
    pub record AcceptedWithBill (extent : Extent) (accepted : YesWithBill) : Type 0 where
      pub right : AcceptedWithin extent accepted.yes
      pub bill : Bill
      pub last : bill_of extent accepted.yes right ≡ Some bill
      pub tally : accepted.tally ≡ bill.tally
      pub memory : accepted.memory ≡ bill.memory

    -- a pickle was refused, and all that precedes the refused instruction keeps within the limits
    abbrev pub IsRefused : Extent → RefusedPickle → Type 0
    IsRefused ToTheEnd refused =
        (right : RefusedInRow loading policy limits old new refused.pickle refused.no.at
        refused.no.reason (option_map asked_shown refused.no.pair))
        × KeepWithin loading tolls [] right.before
        × StaysWithin loading tolls right.before right.refused.instructions
    IsRefused OnePickle refused =
        (right : RefusedWithImports 0 loading.old_strings (begins loading.memo []) policy limits
        old new refused.no.at refused.no.reason (option_map asked_shown refused.no.pair)
        refused.imports)
        × StaysWithin loading tolls [] right.refused.instructions × (refused.pickle ≡ 0)

    -- the answer is that of the check, and what it accepts keeps within the limits
    abbrev pub IsRightWithin : Extent → Result YesAll RefusedPickle → Type 0
    IsRightWithin extent answer =
        MatchResult answer (AcceptedWithin extent) (IsRefused extent)

    -- likewise, with the bill
    abbrev pub IsRightLoading : Extent → Result YesWithBill RefusedPickle → Type 0
    IsRightLoading extent answer =
        MatchResult answer (AcceptedWithBill extent) (IsRefused extent)

-- the count of failed reads rises by one if the reason is Source, and otherwise stays the same
abbrev pub CountsLoaded : {A : Type 0} → ℕ → ℕ → Result A RefusedPickle → Type 0
CountsLoaded old new answer =
    MatchResult answer (λ _. new ≡ old) (λ refused. CountsAt refused.no.reason old new)
