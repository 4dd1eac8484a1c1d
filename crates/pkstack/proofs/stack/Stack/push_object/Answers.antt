-- The places of the marks stay right with an object put on top, or with none for lack of memory.
use Rattle.std.proofs.Common.{◌∙◌, sym}
use Rattle.pkstack.proofs.Bars.{bars_pushed}
use Rattle.pkstack.proofs.stack.Stack.push_object.Goals as goal
use Rattle.pkstack.proofs.stack.Stack.push_object.Goals.{in-Ok, in-Err}

pub invariant_of-self : goal.invariant_of-self
invariant_of-self g c =
    elim c.match-put_on_top.branch [
      | in-Ok w ↦ rw w.in-Ok.ensures.ok
          (c.self.invariant ∙ sym (bars_pushed c.self.inside.slots c.args.value))
      | in-Err w ↦ rw w.in-Err.ensures.err c.self.invariant
    ]
