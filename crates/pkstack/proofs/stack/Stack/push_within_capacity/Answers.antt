-- An object leaves the places of the marks as they are, whether it is pushed or not.
use Rattle.std.proofs.Common.{◌∙◌, inl, inr, sym}
use Rattle.std.proofs.lemmas.Bool.{cases_Bool}
use Rattle.pkstack.proofs.Bars.{bars_pushed}
use Rattle.pkstack.proofs.stack.Stack.push_within_capacity.Goals as goal

pub invariant_of-self : goal.invariant_of-self
invariant_of-self g c =
    elim (cases_Bool c.push_within_capacity.result) [
      | inl h ↦ rw (c.push_within_capacity.ensures.pushed h, c.object.ensures)
          (c.self.invariant ∙ sym (bars_pushed c.self.inside.slots c.args.value))
      | inr h ↦ rw (c.push_within_capacity.ensures.kept h) c.self.invariant
    ]
