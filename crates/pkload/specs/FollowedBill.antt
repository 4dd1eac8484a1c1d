-- The bill is what a domain carries: `billed` is a case of `followed`.
use Rattle.std.specs.Prelude.{◌≡◌, ◌+◌, ◌-◌, ℕ, Ok, false, length, max}
use Rattle.pkops.specs.Operands.{memo_number}
use Rattle.pkops.specs.Spelling.{Instruction}
use Rattle.pkstack.specs.Shape.{and_then}
use Rattle.pkstack.specs.declared.Move.{Move}
use Rattle.pkmachine.specs.Following.{Carried, Follower, followed}
use Rattle.pkload.specs.Bill.{Bill, billed}
use Rattle.pkload.specs.Heft.{Heft, heft_of}
use Rattle.pkload.specs.Memory.{move_memory, number_kept, operation_memory}
use Rattle.pkload.specs.Tally.{with_operation}
use Rattle.pkload.specs.declared.tally.Tally.{Tally}

-- what is counted along a pickle: what its keys cost, the memory that loading takes, and the
-- highest memo number so far
pub record Counts : Type 0 where
  pub tally : Tally
  pub memory : ℕ
  pub highest : ℕ

-- the counts after a move that stores under this number, if it stores
abbrev pub counts_moved : Move → ℕ → Counts → Counts
counts_moved move number counts = record counts {
  memory = counts.memory + move_memory move (max counts.highest number - counts.highest);
  highest = max counts.highest number;
}

-- the domain that keeps what each object costs as a key, and counts
abbrev pub costs : Follower Heft Counts
costs = record {
  given = λ counts instruction operands. heft_of instruction operands;
  after = λ counts instruction operands. record counts {
    tally = with_operation instruction.op operands counts.tally;
    memory = counts.memory + operation_memory instruction (length operands);
  };
  after_move = λ counts move kept instruction.
      counts_moved move (number_kept move (memo_number instruction) kept) counts;
  after_stop = λ counts. record counts { memory = counts.memory + 16 };
}

-- the bill as what that domain carries
abbrev pub bill_carried : Bill → Carried Heft Counts
bill_carried bill = record {
  shape = bill.shape;
  domain = record { tally = bill.tally; memory = bill.memory; highest = bill.highest };
}

-- the bill after an instruction of a pickle that hasn't stopped is what the domain carries then,
-- and there is none exactly if the domain can't follow the instruction
abbrev pub BillIsFollowed : Type 0
BillIsFollowed =
    (instruction : Instruction) (bill : Bill)
    → bill.ended ≡ false
    → followed costs instruction (bill_carried bill)
    ≡ and_then (billed instruction bill) (λ after. Ok (bill_carried after))
