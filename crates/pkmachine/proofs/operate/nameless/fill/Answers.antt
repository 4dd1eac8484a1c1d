-- With so many objects on top and a fitting receiver, keeping the lowest is the whole effect.
use Rattle.std.proofs.Common.{sym}
use Rattle.pkops.specs.declared.Op.TheVariants as op
use Rattle.pkops.specs.Spelling.{Nothing, instruction}
use Rattle.pkmachine.proofs.StepParts.Replaced.{has_filled}
use Rattle.pkmachine.proofs.operate.nameless.fill.Goals as goal

pub returns-clause-done : goal.returns-clause-done
returns-clause-done g c done =
    has_filled g.D.Domain.follows c.args.op c.args.count c.in-Some.place c.args.wanted
    c.args.stack.now _ c.args.domain.now _ c.in-Some.ensures.1
    (λ ts. rw c.operands-operands.ensures at (sym (c.if-receiver_fault.ensures ts)))
    (λ i same. rw c.operands-operands.ensures at (c.operated.ensures.state i same)) c.requires.some
    c.end_with.ensures (instruction op.None Nothing)
