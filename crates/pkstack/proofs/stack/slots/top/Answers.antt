-- The last slot is the top of the stack, and a mark there is no item.
use Rattle.std.proofs.Common.{◌∙◌, rules, sym}
use Rattle.pkstack.proofs.Topmost.{top_mark, top_object}
use Rattle.pkstack.proofs.stack.slots.top.Goals as goal

pub returns-in_default : goal.returns-in_default
returns-in_default g c = top_mark c.args.slots.now _ (search (rules, c.if-is_empty.ensures))
    (sym c.index-slots-slots.is ∙ sym c.slot.ensures ∙ c.in_default.is)

pub returns : goal.returns
returns g c = top_object c.args.slots.now _ c.in-Object.value
    (search (rules, c.if-is_empty.ensures))
    (sym c.index-slots-slots.is ∙ sym c.slot.ensures ∙ c.in-Object.is)
