-- From 2^55 on, one more byte makes the number at least 2^63.
use Rattle.std.proofs.Common.{arith, inr}
use Rattle.pkjson.proofs.MachineIntegers.{natural_part}
use Rattle.pkjson.proofs.integer.natural.Goals as goal

pub returns-then-value : goal.returns-then-value
returns-then-value c = inr (
  omega (
    arith,
    natural_part c.args.flip c.args.bytes.now c.loop-place.place c.loop-place-test.true
        c.loop-place.invariant.0,
    c.loop-place.invariant.1,
    c.if-value.true,
  ),
  omega arith,
)
