-- As many bytes are passed over as are wanted, or all that there are.
use Rattle.std.proofs.Common.{◌≤◌, length, take, sym, arith, length-take-le, take-append-drop}
use Rattle.pkread.proofs.Bytes.Taken.{AreBytes-take}
use Rattle.pkread.proofs.source.count_passed.Goals as goal

pub returns-clause-passed : goal.returns-clause-passed
returns-clause-passed c =
    let bytes = c.args.bytes.now in
    let count = c.min.ensures in
    let within : c.min.result ≤ length bytes = omega (arith, count) in
    record {
      bytes = take c.min.result bytes;
      fit = AreBytes-take c.min.result bytes (λ i. (c.type_inv.bytes i).fits);
      gone = sym (take-append-drop c.min.result bytes);
      within = omega (arith, count);
      count = length-take-le c.min.result bytes within;
    }
