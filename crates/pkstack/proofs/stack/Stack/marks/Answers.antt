-- The stack has one mark for each noted place.
use Rattle.std.proofs.Common.{◌∙◌, ap, length}
use Rattle.pkstack.proofs.Bars.{marks_shown}
use Rattle.pkstack.proofs.stack.Stack.marks.Goals as goal

pub returns : goal.returns
returns g c = rw (← c.self.view_is)
    (c.len.ensures.value ∙ ap length c.self.invariant ∙ marks_shown c.self.inside.slots)
