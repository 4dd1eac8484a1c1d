-- One entry is too few, and so are objects above a mark.
use Rattle.std.proofs.Common.{◌-◌, ◌∙◌, arith, sym}
use Rattle.pkstack.proofs.Few.{few_entries, mark_below}
use Rattle.pkstack.proofs.stack.slots.two_objects.Goals as goal

pub returns-then-slots-lt2 : goal.returns-then-slots-lt2
returns-then-slots-lt2 g c = few_entries c.args.slots.now 2 c.if-slots-lt2.true

pub returns-in_default-slot : goal.returns-in_default-slot
returns-in_default-slot g c =
    let found = c.in-Some.ensures in
    mark_below c.args.slots.now c.in-Some.place (c.in-Some.place - 1) 2 _ (omega (arith, found.0))
    (omega (arith, found.0))
    (sym c.index-slots-place.is ∙ sym c.slot.ensures ∙ c.in_default-slot.is)
    found.1 (omega (arith, found.0))
