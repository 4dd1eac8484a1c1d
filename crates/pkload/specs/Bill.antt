-- The bill: what is known about the cost of every object in all runs at once, and how an
-- instruction changes it. It uses the machine's own definition of what an instruction takes and
-- moves.
use Rattle.std.specs.Prelude.{ℕ, ◌+◌, ◌-◌, max, List, [], ◌∷◌, ◌++◌, length, Option, Some, None}
use Rattle.std.specs.Prelude.{Result, Ok, Err, Bool, true, false, if◌then◌else◌}
use Rattle.pkops.specs.Spelling.{Instruction}
use Rattle.pkops.specs.Operands.{memo_number}
use Rattle.pkmachine.specs.declared.effect.Gives.{Gives}
use Rattle.pkmachine.specs.declared.effect.Gives.TheVariants.{Leaves}
use Rattle.pkstack.specs.declared.Move.{Move}
use Rattle.pkmachine.specs.Effects.{Effect, Operates, Moves, Stops, Raises, effect_of}
use Rattle.pkstack.specs.Shape.{Breach, NoItem, Entry, Shape, Taken}
use Rattle.pkstack.specs.Shape.{and_then, operands, put, moved, top}
use Rattle.pkmachine.specs.RowRuns.{Beginning, Afresh, Behind, sequences_of}
use Rattle.pkload.specs.Heft.{Heft, heft_of}
use Rattle.pkload.specs.Memory.{move_memory, number_kept, operation_memory}
use Rattle.pkload.specs.declared.tally.Tally.{Tally}
use Rattle.pkload.specs.Tally.{no_tally, with_operation}

-- the cost of each object on the stack and in the memo, what was counted, the memory that loading
-- takes, the highest memo number so far, and whether the pickle stopped
pub record Bill : Type 0 where
  pub shape : Shape Heft
  pub tally : Tally
  pub memory : ℕ
  pub highest : ℕ
  pub ended : Bool

-- the cost of the object that an operation gives; None if it leaves its receiver
abbrev pub heft_given : Gives → Instruction → List Heft → Option Heft
heft_given (Leaves wanted) instruction operands = None
heft_given gives instruction operands = Some (heft_of instruction operands)

-- the bill after an operation
abbrev pub operation_billed : Gives → Instruction → Bill → Result (Taken Heft) Breach
    → Result Bill Breach
operation_billed gives instruction bill found =
    and_then found (λ taken. Ok (record bill {
      shape = record bill.shape {
        entries = put (heft_given gives instruction taken.operands) taken.operands ++ taken.below;
      };
      tally = with_operation instruction.op taken.operands bill.tally;
      memory = bill.memory + operation_memory instruction (length taken.operands);
    }))

-- the bill after a move that stores under this number, if it stores
abbrev pub move_billed : Move → ℕ → Bill → Result (Shape Heft) Breach → Result Bill Breach
move_billed move number bill found =
    and_then found (λ shape. Ok (record bill {
      shape = shape;
      memory = bill.memory + move_memory move (max bill.highest number - bill.highest);
      highest = max bill.highest number;
    }))

-- the bill after a move with this number
abbrev pub moved_by : Move → ℕ → Bill → Result Bill Breach
moved_by move number bill =
    move_billed move (number_kept move number (length bill.shape.memo)) bill
    (moved move number bill.shape)

-- the bill after STOP, which takes the result
abbrev pub stop_billed : Bill → Result (Heft × List (Entry Heft)) Breach → Result Bill Breach
stop_billed bill found =
    and_then found (λ taken.
    Ok (record bill {
      shape = record bill.shape { entries = taken.1 };
      memory = bill.memory + 16;
      ended = true;
    }))

-- the bill after an instruction with this effect
abbrev pub billed_by : Effect → Instruction → Bill → Result Bill Breach
billed_by (Operates takes names gives) instruction bill =
    operation_billed gives instruction bill (operands takes bill.shape.entries)
billed_by (Moves move) instruction bill = moved_by move (memo_number instruction) bill
billed_by Stops instruction bill = stop_billed bill (top bill.shape.entries)
billed_by Raises instruction bill = Ok bill

-- the bill after one more instruction; none follows STOP. An old string weighs by its bytes,
-- whatever it decodes to, so its decoding doesn't matter
abbrev pub billed : Instruction → Bill → Result Bill Breach
billed instruction bill =
    if bill.ended then Err NoItem else billed_by (effect_of instruction.op) instruction bill

-- the bill after these instructions
abbrev pub all_billed : List Instruction → Bill → Result Bill Breach
all_billed [] bill = Ok bill
all_billed (instruction ∷ instructions) bill =
    and_then (billed instruction bill) (all_billed instructions)

-- the bill at the start
abbrev pub no_bill : Bill
no_bill = record {
  shape = record { entries = []; memo = [] };
  tally = no_tally;
  memory = 0;
  highest = 0;
  ended = false;
}

-- the bill where the next pickle begins under one Unpickler: the sums begin anew, the memo stays
abbrev pub next_bill : Bill → Bill
next_bill bill = record no_bill {
  shape = record { entries = []; memo = bill.shape.memo };
  highest = bill.highest;
}

-- the bill after these pickles under one Unpickler
abbrev pub row_billed : List (List Instruction) → Bill → Result Bill Breach
row_billed [] bill = Ok bill
row_billed (pickle ∷ pickles) bill =
    and_then (all_billed pickle bill) (λ after. row_billed pickles (next_bill after))

-- the bill where a pickle begins
abbrev pub bill_before : Beginning → Result Bill Breach
bill_before Afresh = Ok no_bill
bill_before (Behind pickles) = row_billed (sequences_of pickles) no_bill
