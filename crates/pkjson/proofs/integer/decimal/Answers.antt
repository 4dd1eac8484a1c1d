-- Above a tenth of 2^63, one more digit makes the number greater than 2^63.
use Rattle.std.proofs.Common.{arith, inr, subst, sym, ◌<◌, ◌^◌}
use Rattle.pkjson.proofs.MachineIntegers.{decimal_large}
use Rattle.pkjson.proofs.integer.decimal.Goals as goal

pub returns-then-value-gt922337203685477580 : goal.returns-then-value-gt922337203685477580
returns-then-value-gt922337203685477580 c = inr (
  subst (λ n. 2 ^ 63 < n) (sym c.loop-digit.invariant.0)
      (decimal_large c.loop-digit.value c.args.digits.now c.loop-digit.digit-index
      c.loop-digit-test.true c.if-digit-eq76.false c.if-value-gt922337203685477580.true),
  omega arith,
)
