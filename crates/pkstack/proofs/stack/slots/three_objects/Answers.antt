-- Two entries are too few, and so are objects above a mark.
use Rattle.std.proofs.Common.{◌-◌, ◌∙◌, arith, sym}
use Rattle.pkstack.proofs.Few.{few_entries, mark_below}
use Rattle.pkstack.proofs.stack.slots.three_objects.Goals as goal

pub returns-then-slots-lt3 : goal.returns-then-slots-lt3
returns-then-slots-lt3 g c = few_entries c.args.slots.now 3 c.if-slots-lt3.true

pub returns-in_default-slot : goal.returns-in_default-slot
returns-in_default-slot g c =
    let found = c.in-Some.ensures in
    mark_below c.args.slots.now c.in-Some.second (c.in-Some.second - 1) 3 _ (omega (arith, found.0))
    (omega (arith, found.0))
    (sym c.index-slots-second.is ∙ sym c.slot.ensures ∙ c.in_default-slot.is)
    found.1 (omega (arith, found.0))
