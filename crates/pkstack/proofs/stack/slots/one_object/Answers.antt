-- A mark on top is no object.
use Rattle.std.proofs.Common.{◌∙◌, rules, sym}
use Rattle.pkstack.proofs.Few.{mark_on_top}
use Rattle.pkstack.proofs.stack.slots.one_object.Goals as goal

pub returns-in_default : goal.returns-in_default
returns-in_default g c = mark_on_top c.args.slots.now _ (search (rules, c.if-is_empty.ensures))
    (sym c.index-slots-slots.is ∙ sym c.slot.ensures ∙ c.in_default.is)
