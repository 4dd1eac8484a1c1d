-- The slot below the topmost mark is the receiver, unless it is a mark or isn't there.
use Rattle.std.proofs.Common.{◌-◌, ◌∙◌, [], refl, arith, drop, sym}
use Rattle.pkstack.specs.Shape.{NoItem}
use Rattle.pkstack.specs.Private.Slots.{shown, values_of}
use Rattle.pkstack.proofs.Bars.{marks_over_object}
use Rattle.pkstack.proofs.Shown.{items_at_bar, items_at_object}
use Rattle.pkstack.proofs.Placed.{receiver_missing, receiver_fits, receiver_breaks}
use Rattle.pkstack.proofs.Settled.{breaks_by_count}
use Rattle.pkstack.proofs.stack.slots.receiver_place.Goals as goal

pub returns-in_default-slot-clause-err : goal.returns-in_default-slot-clause-err
returns-in_default-slot-clause-err g c =
    let e = items_at_bar c.args.stack.now c.in-Some.place (c.in-Some.place - 1) _ (omega arith)
    (omega (arith, c.in-Some.ensures.value.0)) 1 0 refl
    (sym c.index-stack-place.is ∙ sym c.slot.ensures ∙ c.in_default-slot.is) in (
      NoItem,
      receiver_missing c.args.rule (shown c.args.stack.now []) _ c.in-Some.ensures.value.1 NoItem e,
      refl,
    )

pub returns-in-Some-rule_fault-clause-err : goal.returns-in-Some-rule_fault-clause-err
returns-in-Some-rule_fault-clause-err g c =
    let e = items_at_object c.args.stack.now c.in-Some.place (c.in-Some.place - 1) _ (omega arith)
    (omega (arith, c.in-Some.ensures.value.0)) 1 0 _ refl
    (sym c.index-stack-place.is ∙ sym c.slot.ensures ∙ c.in-Object.is) in
    let f = c.in-Some-rule_fault.ensures in
    let by = breaks_by_count c.args.rule (values_of (drop c.in-Some.place c.args.stack.now)) _
    (omega (arith, c.in-Some.ensures.count)) in (
      f.0,
      receiver_breaks c.args.rule (shown c.args.stack.now []) _ c.in-Some.ensures.value.1 _ _ e (by
          ∙ f.1),
      f.2,
    )

pub returns-in-None-clause-ok : goal.returns-in-None-clause-ok
returns-in-None-clause-ok g c =
    let e = items_at_object c.args.stack.now c.in-Some.place (c.in-Some.place - 1) _ (omega arith)
    (omega (arith, c.in-Some.ensures.value.0)) 1 0 _ refl
    (sym c.index-stack-place.is ∙ sym c.slot.ensures ∙ c.in-Object.is) in (
      omega (arith, c.in-Some.ensures.value.0),
      receiver_fits c.args.rule
          (shown c.args.stack.now []) _ c.in-Some.ensures.value.1 _ e
          (breaks_by_count c.args.rule (values_of (drop c.in-Some.place c.args.stack.now)) _
          (omega (arith, c.in-Some.ensures.count)) ∙ c.in-None.ensures),
    )

pub returns-in-None-clause-marks : goal.returns-in-None-clause-marks
returns-in-None-clause-marks g c =
    let e = marks_over_object c.args.stack.now c.in-Some.place (c.in-Some.place - 1) _ _
    (omega arith) (omega (arith, c.in-Some.ensures.value.0))
    (sym c.index-stack-place.is ∙ sym c.slot.ensures ∙ c.in-Object.is) in
    rw (← e) c.in-Some.ensures.marks
