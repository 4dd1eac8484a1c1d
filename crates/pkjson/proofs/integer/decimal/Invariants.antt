-- The number of all digits is that of the value so far, continued by the digits left.
use Rattle.std.proofs.Common.{◌≡◌, ◌<◌, ◌+◌, ◌^◌, drop}
use Rattle.pkjson.specs.Integers.{decimal_after}
use Rattle.pkjson.proofs.integer.decimal.Given as goal

abbrev pub invariant-loop-digit : goal.invariant-loop-digit
invariant-loop-digit l =
    (decimal_after 0 l.digits ≡ decimal_after l.value (drop l.digit-index l.digits))
    × (l.value < 2 ^ 63 + 256)
