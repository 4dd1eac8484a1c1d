-- What the bill says about runs.
use Rattle.std.specs.Prelude.{◌≡◌, ◌++◌, ℕ, List, [], Ok, Some, slice_get}
use Rattle.pkops.specs.Limits.{Bounds}
use Rattle.pkops.specs.Spelling.{Instruction}
use Rattle.pkread.specs.Rows.{Sight}
use Rattle.pkcheck.specs.Accepted.{AcceptedFrom}
use Rattle.pkmachine.specs.Knowledge.{Policy}
use Rattle.pkcheck.specs.RowOfPickles.{AcceptedRow, begins}
use Rattle.pkcheck.specs.declared.check_loop.Extent.{Extent}
use Rattle.pkcheck.specs.declared.check_loop.Extent.TheVariants.{OnePickle, ToTheEnd}
use Rattle.pkcheck.specs.declared.loading.Loading.{Loading}
use Rattle.pkmachine.specs.declared.old_strings.OldStrings.{OldStrings}
use Rattle.pkcheck.specs.declared.row_of_pickles.YesAll.{YesAll}
use Rattle.pkload.specs.Loading.{AcceptedWithin, EndsSo}
use Rattle.pkload.specs.declared.tolls.Excess.{Excess}
use Rattle.pkload.specs.declared.tolls.Tolls.{Tolls}
use Rattle.pkmachine.specs.Covers.{Alike}
use Rattle.pkcheck.specs.NewRuns.{InEachNewRun}
use Rattle.pkmachine.specs.RowRuns.{Beginning}
use Rattle.pkmachine.specs.Runs.{State}
use Rattle.pkstack.specs.Shape.{and_then}
use Rattle.pkmachine.specs.WholeRuns.{Ended}
use Rattle.pkload.specs.Bill.{Bill, all_billed, bill_before}
use Rattle.pkload.specs.Heft.{Heft}
use Rattle.pkload.specs.Tally.{IsAtMost}
use Rattle.pkload.specs.Tolls.{Exceeds, KeepsWithin}
use Rattle.pkload.specs.Weighed.{account_of, tally_since}

-- the object with this number costs this
abbrev pub Costs : List Heft → Heft → ℕ → Type 0
Costs hefts heft number = slice_get hefts number ≡ Some heft

-- the bill is that of the run: marks and objects are where it says, each object costs what it says,
-- and what it counted is what the events of the run count, after those of earlier pickles
pub record IsBillOf (bill : Bill) (earlier : ℕ) (state : State) : Type 0 where
  pub shape : Alike (Costs (account_of state.events).hefts) bill.shape state.shape
  pub tally : tally_since earlier state.events ≡ bill.tally

-- the run isn't stuck. If it got to the end, the bill is that of the run; if it raised, its keys
-- cost at most what the bill says
abbrev pub EndsBilled : Bill → ℕ → Ended → Type 0
EndsBilled bill earlier = EndsSo (IsBillOf bill earlier)
    (λ state. IsAtMost (tally_since earlier state.events) bill.tally)

-- a bill of instructions bounds each of their runs whose answers are new objects, wherever they
-- begin and however old strings are decoded
abbrev pub BillBoundsRuns : Type 0
BillBoundsRuns =
    (setting : OldStrings) (beginning : Beginning) (instructions : List Instruction) (bill : Bill)
    → and_then (bill_before beginning) (all_billed instructions) ≡ Ok bill
    → InEachNewRun setting beginning instructions (EndsBilled bill)

-- what exceeds a limit exceeds it however the pickle goes on
abbrev pub ExcessStays : Type 0
ExcessStays =
    (excess : Excess) (tolls : Tolls) (beginning : Beginning) (front more : List Instruction)
    (bill after : Bill)
    → and_then (bill_before beginning) (all_billed front) ≡ Ok bill
    → Exceeds excess tolls bill.tally bill.memory
    → and_then (bill_before beginning) (all_billed (front ++ more)) ≡ Ok after
    → KeepsWithin tolls after.tally after.memory
    → ⊥

module _ (loading : Loading) (policy : Policy) (limits : Bounds) (old new : Sight) where
  -- pickles are accepted whatever loading costs
  abbrev pub AcceptedAtAnyCost : Extent → YesAll → Type 0
  AcceptedAtAnyCost ToTheEnd accepted =
      AcceptedRow loading policy limits old new accepted.taken accepted.pickles accepted.imports
  AcceptedAtAnyCost OnePickle accepted =
      AcceptedFrom loading.old_strings (begins loading.memo []) policy limits old new
      accepted.taken accepted.imports

-- what is accepted within limits on what loading costs is accepted without them
abbrev pub TollsOnlyRefuse : Type 0
TollsOnlyRefuse =
    (loading : Loading) (policy : Policy) (limits : Bounds) (tolls : Tolls) (old new : Sight)
    (extent : Extent) (accepted : YesAll)
    → AcceptedWithin loading policy limits tolls old new extent accepted
    → AcceptedAtAnyCost loading policy limits old new extent accepted
