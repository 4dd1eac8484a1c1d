-- The object right below the operands is the receiver; a mark or nothing there is a lack.
use Rattle.std.proofs.Common.{◌≡◌, ◌-◌, ◌+◌, arith}
use Rattle.pkjson.proofs.Entries.{receiver_at_mark, receiver_at_object, receiver_at_bottom}
use Rattle.pkjson.proofs.Entries.{shown_take}
use Rattle.pkjson.specs.declared.slots.Slot.TheVariants as slot
use Rattle.pkjson.proofs.slots.receiver_of.Goals as goal

pub returns-then-place-eq0 : goal.returns-then-place-eq0
returns-then-place-eq0 c =
    (_, receiver_at_bottom c.args.slots.now c.in-Some.place _ c.in-Some.ensures.1 (omega arith))

pub returns-in-Mark : goal.returns-in-Mark
returns-in-Mark c = (
  _,
  receiver_at_mark c.args.slots.now c.in-Some.place (c.in-Some.place - 1) _ (omega arith)
      (omega (arith, c.in-Some.ensures.0)) _ c.in-Some.ensures.1 c.in-Mark.is,
)

pub returns-in-Object : goal.returns-in-Object
returns-in-Object c = let e : c.in-Some.place - 1 + 1 ≡ c.in-Some.place = omega arith in (
  omega (arith, c.in-Some.ensures.0),
  rw e (receiver_at_object c.args.slots.now c.in-Some.place
      (c.in-Some.place - 1) _ (omega arith) (omega (arith, c.in-Some.ensures.0)) _
      c.in-Object.number
      c.in-Some.ensures.1 c.in-Object.is),
  rw e (shown_take c.args.slots.now c.in-Some.place
      (c.in-Some.place - 1) _ (omega arith) (omega (arith, c.in-Some.ensures.0))
      (slot.Object c.in-Object.number) c.in-Object.is),
)
