-- A little-endian number of some bytes is below 256 to the power of their count.
use Rattle.std.proofs.Common.{arith}
use Rattle.byteorder.specs.Numbers.{little_from-lt}
use Rattle.pkops.proofs.reading.number.Goals as goal

pub returns-clause-fits : goal.returns-clause-fits
returns-clause-fits c = rw c.read_uint.ensures
    (little_from-lt 0 c.args.width c.args.from.now (λ i. omega (arith, c.type_inv.from i)))
