-- The receiver is the first operand, whose class decides; without operands nothing is wrong.
use Rattle.std.proofs.Common.{◌∙◌}
use Rattle.pkmachine.proofs.StepParts.Judged.{wrong_head, wrong_none}
use Rattle.pkmachine.proofs.operate.receiver.receiver_fault.Goals as goal

pub returns-in-Some : goal.returns-in-Some
returns-in-Some g c ts = rw c.in-Leaves.is
    ((let l = rw c.value.ensures at c.is_wrong.ensures ts in l)
    ∙ wrong_head ts c.in-Leaves.wanted c.args.operands.now c.in-Some.held
    c.in-Some.ensures)

pub returns-in-None : goal.returns-in-None
returns-in-None g c ts =
    rw c.in-Leaves.is (wrong_none ts c.in-Leaves.wanted c.args.operands.now c.in-None.ensures)
