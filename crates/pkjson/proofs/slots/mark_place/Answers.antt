-- On the way down an object joins the slice and a mark ends it; the bottom shows there is none.
use Rattle.std.proofs.Common.{◌-◌, arith, ◌∙◌}
use Rattle.pkjson.proofs.Entries.{slice_at_mark, slice_at_object, slice_at_bottom}
use Rattle.pkjson.proofs.slots.mark_place.Goals as goal

pub returns-in-Mark : goal.returns-in-Mark
returns-in-Mark c = (
  omega arith,
  c.loop-place.invariant.1
      ∙ slice_at_mark c.args.slots.now c.loop-place.place (c.loop-place.place - 1) _ (omega arith)
      (omega arith) c.in-Mark.is,
)

pub loop-place-preserved : goal.loop-place-preserved
loop-place-preserved c = (
  omega arith,
  c.loop-place.invariant.1
      ∙ slice_at_object c.args.slots.now c.loop-place.place (c.loop-place.place - 1) _ (omega arith)
      (omega arith) _ c.in_default.is,
)

pub returns : goal.returns
returns c = (
  _,
  c.loop-place.invariant.1 ∙ slice_at_bottom c.args.slots.now c.loop-place.place (omega arith),
)
