-- The slot at which the count of objects reaches the index holds the operand with that index.
use Rattle.std.proofs.Common.{◌≡◌, ◌∙◌, ◌≤◌, Some, None, length, take, subst, sym, arith}
use Rattle.std.specs.List.{slice_get}
use Rattle.std.proofs.lemmas.List.{take_all}
use Rattle.std.proofs.lemmas.Option.{slice_get_past}
use Rattle.pkstack.specs.Private.Slots.{values_of}
use Rattle.pkstack.proofs.Settled.{count_bar, count_object, object_at}
use Rattle.pkstack.proofs.stack.operands.Operands.get.Goals as goal
use Rattle.pkstack.proofs.stack.operands.Operands.get.Goals.{in-Object+else-before-index}
use Rattle.pkstack.proofs.stack.operands.Operands.get.Goals.{in_default}

pub returns-then-before-index : goal.returns-then-before-index
returns-then-before-index g c =
    let here : length (values_of (take c.loop-slot.slot-index c.self.inside.slots.now))
    ≡ c.args.index = sym c.loop-slot.invariant.2 ∙ c.if-before-index.true in
    let found = object_at c.self.inside.slots.now c.loop-slot.slot-index _ c.in-Object.value
    (omega arith) (sym c.slot-item.is ∙ sym c.slot.ensures ∙ c.in-Object.is) in
    subst (λ ks. Some c.in-Object.value ≡ slice_get ks c.args.index) c.self.view_is
    (sym (rw here at found))

pub loop-slot-preserved : goal.loop-slot-preserved
loop-slot-preserved g c =
    elim c.match-slot.branch [
      | in-Object+else-before-index w ↦ let e = count_object c.self.inside.slots.now
          c.loop-slot.slot-index _ _ (omega arith)
          (sym c.slot-item.is ∙ sym c.slot.ensures ∙ w.in-Object.is) in (
            omega (arith, w.before-is),
            omega (arith, w.before-is, w.if-before-index.false),
            omega (arith, w.before-is, e),
          )
      | in_default w ↦ let e = count_bar c.self.inside.slots.now c.loop-slot.slot-index _
          (omega arith) (sym c.slot-item.is ∙ sym c.slot.ensures ∙ w.in_default.is) in
          (omega (arith, w.before-is), omega (arith, w.before-is), omega (arith, w.before-is, e))
    ]

pub returns : goal.returns
returns g c =
    let all : take c.loop-slot.slot-index c.self.inside.slots.now ≡ c.self.inside.slots.now =
    take_all _ _ (omega arith) in
    let many = rw all at c.loop-slot.invariant.2 in
    let past : length (values_of c.self.inside.slots.now) ≤ c.args.index = omega (arith, many) in
    subst (λ ks. None ≡ slice_get ks c.args.index) c.self.view_is
    (sym (slice_get_past _ c.args.index past))
