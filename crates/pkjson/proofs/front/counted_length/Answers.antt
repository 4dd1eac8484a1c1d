-- Code, count and payload make the length, whichever opcode has a count of this width.
use Rattle.std.proofs.Common.{ap, arith}
use Rattle.pkjson.proofs.Runs.Fronts.{counted_length}
use Rattle.pkjson.proofs.front.counted_length.Goals as goal

pub returns : goal.returns
returns c =
    let head = ap (λ pair. pair.0) c.in-Some.ensures.1 in
    let count = ap (λ pair. pair.1) c.in-Some.ensures.1 in
    counted_length c.args.width c.args.bytes.now _ (omega (arith, head, count))
