-- A slice begins at the last noted place, the topmost mark; without one there is no slice.
use Rattle.pkstack.proofs.Bars.{last_some, last_none, no_slice, slice_at, slice_count, marks_slice}
use Rattle.pkstack.proofs.stack.slots.mark_place.Goals as goal

pub returns-in-Some-clause-value : goal.returns-in-Some-clause-value
returns-in-Some-clause-value g c =
    let t = last_some c.args.stack.now c.in-Some.place.now
    (rw c.requires at c.in-Some.ensures.value) in
    (t.within, slice_at c.args.stack.now c.in-Some.place.now t)

pub returns-in-Some-clause-count : goal.returns-in-Some-clause-count
returns-in-Some-clause-count g c = slice_count c.args.stack.now c.in-Some.place.now
    (last_some c.args.stack.now c.in-Some.place.now (rw c.requires at c.in-Some.ensures.value))

pub returns-in-None-clause-value : goal.returns-in-None-clause-value
returns-in-None-clause-value g c = no_slice c.args.stack.now
    (last_none c.args.stack.now (rw c.requires at c.in-None.ensures.value))

pub returns-in-Some-clause-marks : goal.returns-in-Some-clause-marks
returns-in-Some-clause-marks g c = rw c.requires
    (marks_slice c.args.stack.now c.in-Some.place.now
    (last_some c.args.stack.now c.in-Some.place.now (rw c.requires at c.in-Some.ensures.value)))
