-- A pushed mark stands at the old height, which joins the places of the earlier marks.
use Rattle.std.proofs.Common.{◌∙◌, sym, ap, length, [], ◌∷◌, ◌++◌}
use Rattle.pkstack.proofs.Bars.{bars_marked}
use Rattle.pkstack.proofs.stack.Stack.push_mark.Goals as goal

pub invariant_of-self-in-Ok-push : goal.invariant_of-self-in-Ok-push
invariant_of-self-in-Ok-push g c =
    rw (c.in-Ok-push.ensures.ok, c.in-Ok.ensures.ok, c.len-place.ensures.value, c.mark.ensures)
    (ap (λ l. l ++ length c.self.inside.slots ∷ []) c.self.invariant
    ∙ sym (bars_marked c.self.inside.slots))
