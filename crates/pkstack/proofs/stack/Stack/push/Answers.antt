-- A pushed object leaves the places of the marks as they are.
use Rattle.std.proofs.Common.{◌∙◌, sym}
use Rattle.pkstack.proofs.Bars.{bars_pushed}
use Rattle.pkstack.proofs.stack.Stack.push.Goals as goal
use Rattle.pkstack.proofs.stack.Stack.push.Goals.{in-Ok, in-Err}

pub invariant_of-self : goal.invariant_of-self
invariant_of-self g c =
    elim c.match-push.branch [
      | in-Ok w ↦ rw (w.in-Ok.ensures.ok, c.object.ensures)
          (c.self.invariant ∙ sym (bars_pushed c.self.inside.slots c.args.value))
      | in-Err w ↦ rw w.in-Err.ensures.err c.self.invariant
    ]
