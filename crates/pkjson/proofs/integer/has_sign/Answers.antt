-- The sign bit is in the last byte of the little-endian number.
use Rattle.std.proofs.Common.{arith, sym}
use Rattle.pkjson.proofs.MachineIntegers.{has_sign_last}
use Rattle.pkjson.proofs.integer.has_sign.Goals as goal

pub returns-in-len1-up : goal.returns-in-len1-up
returns-in-len1-up c =
    sym (has_sign_last c.args.bytes.now (omega (arith, c.in-len1-up.len_at_least)))
