-- What it means that a pickle exceeds a limit on what loading costs.
use Rattle.std.specs.Prelude.{◌≡◌, ◌+◌, ◌%◌, ◌^◌, ◌⊎◌, ◌++◌, ◌∷◌, [], ⊤, ℕ, All, List, None, Ok}
use Rattle.std.specs.Prelude.{length}
use Rattle.pkops.specs.Limits.{Bounds}
use Rattle.pkops.specs.Payloads.{payload_limit}
use Rattle.pkops.specs.Spelling.{Instruction, spelling}
use Rattle.pkops.specs.declared.Reason.{Reason}
use Rattle.pkread.specs.Admission.{IsAllowedBy}
use Rattle.pkread.specs.Rows.{Sight, Takes}
use Rattle.pkread.specs.Sequence.{NoStop, spellings}
use Rattle.pkmachine.specs.Knowledge.{Policy}
use Rattle.pkcheck.specs.Refused.{FailsToRead}
use Rattle.pkcheck.specs.NewRuns.{GetsPast, InEachNewRun, InEveryRun, InSomeNewRun}
use Rattle.pkcheck.specs.RowOfPickles.{AreAccepted, begins, bytes_of_all}
use Rattle.pkmachine.specs.RowRuns.{Pickle}
use Rattle.pkcheck.specs.RunFaults.{IsFaultless}
use Rattle.pkmachine.specs.Runs.{Outcome, Raised, Stepped, Stopped, Stuck, WentOn, step_as}
use Rattle.pkstack.specs.Shape.{and_then}
use Rattle.pkmachine.specs.WholeRuns.{Ended, EndedBy, Reached}
use Rattle.pkcheck.specs.declared.check_loop.Extent.{Extent}
use Rattle.pkcheck.specs.declared.check_loop.Extent.TheVariants.{OnePickle}
use Rattle.pkcheck.specs.declared.loading.Loading.{Loading}
use Rattle.pkmachine.specs.declared.old_strings.OldStrings.{OldStrings}
use Rattle.pkload.specs.Bill.{Bill, all_billed, bill_before, billed}
use Rattle.pkload.specs.Loading.{EndsSo, KeepWithin}
use Rattle.pkload.specs.Tolls.{Exceeds, IsExcess, KeepsWithin}
use Rattle.pkload.specs.Weighed.{tally_since}
use Rattle.pkload.specs.Unkept.{IsUnkept}
use Rattle.pkload.specs.declared.tolls.Excess.{Excess}
use Rattle.pkload.specs.declared.tolls.Excess.TheVariants.{OutOfMemory}
use Rattle.pkload.specs.declared.tolls.Tolls.{Tolls}

-- a run that gets past the instruction counts what the reason says, after earlier pickles
abbrev pub EndsAbove : Excess → Tolls → (memory earlier : ℕ) → Ended → Type 0
EndsAbove excess tolls memory earlier =
    EndsSo (λ state. Exceeds excess tolls (tally_since earlier state.events) memory) (λ state. ⊤)

-- the events after a step count what the reason says, after earlier pickles
abbrev pub StepsAbove : Excess → Tolls → (memory earlier : ℕ) → Stepped → Type 0
StepsAbove excess tolls memory earlier (WentOn state) =
    IsExcess excess tolls (tally_since earlier state.events) memory
StepsAbove excess tolls memory earlier (Raised state) =
    IsExcess excess tolls (tally_since earlier state.events) memory
StepsAbove excess tolls memory earlier (Stopped result state) =
    IsExcess excess tolls (tally_since earlier state.events) memory
StepsAbove excess tolls memory earlier (Stuck breach) = ⊥

-- if the run gets to this instruction, what the reason says is counted after it, whatever is
-- answered, and whether it goes on or raises
abbrev pub GetsAbove : OldStrings → Instruction → Excess → Tolls → (memory earlier : ℕ) → Ended
    → Type 0
GetsAbove setting last excess tolls memory earlier (Reached state) =
    (outcome : Outcome)
    → StepsAbove excess tolls memory earlier (step_as setting last state outcome)
GetsAbove setting last excess tolls memory earlier (EndedBy step) = ⊤

-- what was taken where the next instruction would begin
pub data NextTaken (limits : Bounds) (here new : Sight) : Type 0 where
  -- nothing
  nothing : Takes here new [] → NextTaken limits here new
  -- the instruction, which is good, admitted and within the limit of its opcode
  whole : (next : Instruction) → IsAllowedBy (payload_limit limits) next
      → Takes here new (spelling next) → NextTaken limits here new
  -- what shows that none can be read
  unread : (at : ℕ) (reason : Reason) → FailsToRead limits here new at reason None
      → NextTaken limits here new

-- after an instruction no more was taken than the next one
pub record TakesNoMore (limits : Bounds) (there new : Sight) : Type 0 where
  pub here : Sight
  pub none : Takes there here []
  pub next : NextTaken limits here new

-- the check accepts an instruction at this offset, of the pickle that follows these, and the bill
-- of those before it keeps within the limits
pub record IsReached (loading : Loading) (policy : Policy) (limits : Bounds) (tolls : Tolls)
    (here : Sight) (before : List Pickle) (at : ℕ) : Type 0 where
  -- the instructions of the pickle before this one, and this one, of which only it may be STOP
  pub instructions : List Instruction
  pub last : Instruction
  pub goes_on : NoStop instructions
  -- the check accepts them: each is good, admitted and within the limit of its opcode, and none has
  -- a fault
  pub admitted : All (IsAllowedBy (payload_limit limits)) (instructions ++ last ∷ [])
  pub faultless : IsFaultless loading.old_strings (begins loading.memo before) policy limits
      (instructions ++ last ∷ [])
  -- the bytes begin with what spells them
  pub there : Sight
  pub bytes : Takes here there (spellings (instructions ++ last ∷ []))
  pub place : at ≡ length (bytes_of_all before) + length (spellings instructions)
  -- the bill of those before it keeps within the limits
  pub earlier : Bill
  pub so_far : and_then (bill_before (begins loading.memo before)) (all_billed instructions)
      ≡ Ok earlier
  pub within : KeepsWithin tolls earlier.tally earlier.memory

-- an instruction at this offset, of the pickle that follows these, exceeds a limit
pub record ExceedsIn (loading : Loading) (policy : Policy) (limits : Bounds) (tolls : Tolls)
    (here : Sight) (before : List Pickle) (at : ℕ) (excess : Excess) : Type 0 where
  pub reached : IsReached loading policy limits tolls here before at
  -- with it the bill exceeds the limit that is named, and none that is tried earlier
  pub bill : Bill
  pub adds : billed reached.last reached.earlier ≡ Ok bill
  pub exceeds : Exceeds excess tolls bill.tally bill.memory
  -- each run that gets to it exceeds the limit that is named, whatever is answered: an earlier
  -- object in place of a new one only adds
  pub each : InEveryRun loading.old_strings (begins loading.memo before)
      reached.instructions (GetsAbove loading.old_strings reached.last excess tolls bill.memory)
  -- each run that gets past it and whose answers are new objects exceeds none that is tried earlier
  pub runs : InEachNewRun loading.old_strings (begins loading.memo before)
      (reached.instructions ++ reached.last ∷ []) (EndsAbove excess tolls bill.memory)

-- the pickle with this index, counted from 0, exceeds a limit at this offset
pub record CostsTooMuch (loading : Loading) (policy : Policy) (limits : Bounds) (tolls : Tolls)
    (old : Sight) (extent : Extent) (pickle at : ℕ) (excess : Excess) : Type 0 where
  -- those before it were accepted, and each keeps within the limits
  pub before : List Pickle
  pub here : Sight
  pub each : AreAccepted loading policy limits old here [] before
  pub kept : KeepWithin loading tolls [] before
  pub number : pickle ≡ length before
  pub alone : extent ≡ OnePickle → before ≡ []
  pub over : ExceedsIn loading policy limits tolls here before at excess
  -- some run gets past it whose answers are new objects
  pub some : InSomeNewRun loading.old_strings (begins loading.memo before)
      (over.reached.instructions ++ over.reached.last ∷ []) GetsPast

-- the check ended because of an instruction at this offset, for this reason: an excess, also if
-- that is OutOfMemory, of which the number of the pickle isn't proved
pub record StopsAt (loading : Loading) (policy : Policy) (limits : Bounds) (tolls : Tolls)
    (old new : Sight) (extent : Extent) (at : ℕ) (excess : Excess) : Type 0 where
  -- the pickles before its own were accepted, and each keeps within the limits
  pub before : List Pickle
  pub here : Sight
  pub each : AreAccepted loading policy limits old here [] before
  pub kept : KeepWithin loading tolls [] before
  pub alone : extent ≡ OnePickle → before ≡ []
  -- the check accepts it; it was read, and no read failed before
  pub reached : IsReached loading policy limits tolls here before at
  -- after it no more was taken than the next instruction
  pub behind : TakesNoMore limits reached.there new
  -- OutOfMemory says that the bill can't be kept after it
  pub unkept : excess ≡ OutOfMemory → IsUnkept before reached.last reached.earlier

-- no read failed, or one did
abbrev pub FailsOnce : ℕ → ℕ → Type 0
FailsOnce old new = (new ≡ old) ⊎ (new ≡ (old + 1) % (2 ^ 64))
