-- Each turn appends what one more slot adds.
use Rattle.std.proofs.Common.{◌∙◌}
use Rattle.pkjson.proofs.Entries.{numbers_next}
use Rattle.pkjson.proofs.slots.add_numbers.Goals as goal

pub loop-slot-preserved : goal.loop-slot-preserved
loop-slot-preserved c = c.in_ok-add_number.ensures
    ∙ numbers_next c.args.found.now.items c.loop-slot.found.items c.args.slots.now
    c.loop-slot.slot-index _ c.loop-slot-test.true c.loop-slot.invariant
