-- An admitted instruction in front is the next item, and a fault in front is the last one.
use Rattle.std.proofs.Common.{ap, ◌∙◌}
use Rattle.pkread.proofs.Calls.WalkNext.{gives_item, refuses_item}
use Rattle.pkread.specs.Genops.{is_stop}
use Rattle.pkread.proofs.walk.GenopsIterator.next.Goals as goal

pub returns-in-Ok-clause-steps : goal.returns-in-Ok-clause-steps
returns-in-Ok-clause-steps c = rw (← c.self.view_is, c.if-self.false)
    (gives_item _ _ _ _ c.in-Ok.inst _ c.in-Ok.ensures.ok.0 c.in-Ok.ensures.ok.1
    (c.is_stop-self-inside.ensures ∙ ap is_stop c.op.ensures.op))

pub returns-in-Err-clause-steps : goal.returns-in-Err-clause-steps
returns-in-Err-clause-steps c = rw (← c.self.view_is, c.if-self.false)
    (refuses_item _ _ _ _ c.in-Err.ensures.err)
