-- Only objects lie above the topmost mark, so a comparison of counts finds where they begin.
use Rattle.std.proofs.Common.{◌-◌, length, arith}
use Rattle.pkstack.proofs.Bars.{items_at, marks_kept, objects_above}
use Rattle.pkstack.proofs.Shown.{starts_well}
use Rattle.pkstack.proofs.stack.slots.objects_place.Goals as goal

pub returns-clause-value : goal.returns-clause-value
returns-clause-value g c =
    let place = length c.args.stack.now - c.args.count in
    let above = objects_above c.args.stack.now _ place
    (omega arith) c.objects_on_top.ensures.objects in (
      omega arith,
      items_at c.args.stack.now place c.args.count above
          (omega (arith, c.objects_on_top.ensures.within)),
    )

pub returns-clause-well : goal.returns-clause-well
returns-clause-well g c =
    let place = length c.args.stack.now - c.args.count in (
      starts_well c.args.stack.now place c.args.count
          (omega (arith, c.objects_on_top.ensures.within)),
      objects_above c.args.stack.now _ place (omega arith) c.objects_on_top.ensures.objects,
    )

pub returns-clause-marks : goal.returns-clause-marks
returns-clause-marks g c =
    let place = length c.args.stack.now - c.args.count in
    rw c.requires
    (marks_kept c.args.stack.now place
    (objects_above c.args.stack.now _ place (omega arith) c.objects_on_top.ensures.objects))
