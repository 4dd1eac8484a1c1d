-- A mark or the bottom on the way down shows that so many objects aren't there.
use Rattle.std.proofs.Common.{◌-◌, ◌+◌, arith, ◌∙◌}
use Rattle.pkjson.proofs.Entries.{items_at_mark, items_at_object, items_at_bottom, items_done}
use Rattle.pkjson.proofs.slots.objects_place.Goals as goal

pub returns-then-place-eq0 : goal.returns-then-place-eq0
returns-then-place-eq0 c = (
  _,
  c.loop-k.invariant.1 ∙ items_at_bottom c.args.slots.now c.loop-k.place
      (c.args.count - c.loop-k._k) (c.args.count - (c.loop-k._k + 1)) (omega arith) (omega arith),
)

pub returns-in-Mark : goal.returns-in-Mark
returns-in-Mark c = (
  _,
  c.loop-k.invariant.1 ∙ items_at_mark c.args.slots.now c.loop-k.place (c.loop-k.place - 1) _
      (omega arith) (omega arith) (c.args.count - c.loop-k._k) (c.args.count - (c.loop-k._k + 1))
      (omega arith) c.in-Mark.is,
)

pub loop-k-preserved : goal.loop-k-preserved
loop-k-preserved c = (
  omega arith,
  c.loop-k.invariant.1
      ∙ items_at_object c.args.slots.now c.loop-k.place (c.loop-k.place - 1) _ (omega arith)
      (omega arith) (c.args.count - c.loop-k._k) (c.args.count - (c.loop-k._k + 1)) _
      (omega arith) c.in_default.is,
)

pub returns : goal.returns
returns c = (
  omega arith,
  c.loop-k.invariant.1
      ∙ items_done c.args.slots.now c.loop-k.place (c.args.count - c.loop-k._k) (omega arith),
)
