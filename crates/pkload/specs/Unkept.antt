-- When a bill can't be kept after an instruction that the check accepts.
use Rattle.std.specs.Prelude.{ℕ, ◌≡◌, ◌≤◌, ◌^◌, ◌⊎◌, ⊤, zero, IfOk, List, None, Result, length}
use Rattle.pkops.specs.Operands.{memo_number}
use Rattle.pkops.specs.Spelling.{Instruction}
use Rattle.pkmachine.specs.Effects.{Effect, Operates, Moves, Stops, Raises, effect_of}
use Rattle.pkmachine.specs.RowRuns.{Pickle}
use Rattle.pkstack.specs.Faults.{MoveMayWantMemory}
use Rattle.pkstack.specs.Shape.{Breach, Shape, recalled}
use Rattle.pkstack.specs.declared.Move.{Move}
use Rattle.pkstack.specs.declared.Move.TheVariants.{Stores, StoresNext}
use Rattle.pkstack.specs.declared.Takes.{Takes}
use Rattle.pkstack.specs.declared.Takes.TheVariants.{Objects}
use Rattle.pkload.specs.Bill.{Bill, billed}
use Rattle.pkload.specs.Heft.{Heft}

-- an operation that takes this takes an entry at least. It leaves one
abbrev pub TakesSome : Takes → Type 0
TakesSome (Objects zero) = ⊥
TakesSome takes = ⊤

-- a move with this number may add an entry. One that stores adds none if the number is in use
abbrev pub MayAdd : Move → ℕ → Shape Heft → Type 0
MayAdd Stores number shape = recalled number shape.memo ≡ None
MayAdd StoresNext number shape =
    (2 ^ 32 ≤ length shape.memo) ⊎ (recalled (length shape.memo) shape.memo ≡ None)
MayAdd move number shape = MoveMayWantMemory move

-- with this effect there are no more entries after an instruction than before it, on the stack and
-- in the memo
abbrev pub LeavesNoMore : Effect → Instruction → Bill → Type 0
LeavesNoMore (Operates takes names gives) instruction bill = TakesSome takes
LeavesNoMore (Moves move) instruction bill =
    MayAdd move (memo_number instruction) bill.shape → ⊥
LeavesNoMore Stops instruction bill = ⊤
LeavesNoMore Raises instruction bill = ⊤

-- a sum of this bill doesn't fit 64 bits
abbrev pub HasGreatSum : Bill → Type 0
HasGreatSum bill = (2 ^ 64 ≤ bill.memory)
    ⊎ ((2 ^ 64 ≤ bill.tally.work) ⊎ (2 ^ 64 ≤ bill.tally.clash))

-- there are 2^50 entries on the stack, or a sum of the bill after the instruction doesn't fit
abbrev pub IsLost : Result Bill Breach → Bill → Type 0
IsLost behind bill = (2 ^ 50 ≤ length bill.shape.entries) ⊎ IfOk behind HasGreatSum

-- the bill can't be kept after this instruction: it leaves more entries, or something is too great
abbrev pub CantBeKept : Instruction → Bill → Type 0
CantBeKept instruction bill =
    LeavesNoMore (effect_of instruction.op) instruction bill
    → IsLost (billed instruction bill) bill

-- likewise after these pickles, whose number must fit too
abbrev pub IsUnkept : List Pickle → Instruction → Bill → Type 0
IsUnkept before instruction bill = (2 ^ 64 ≤ length before) ⊎ CantBeKept instruction bill
