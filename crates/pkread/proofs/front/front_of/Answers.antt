-- An opcode of fixed length is in front as soon as that many bytes are there.
use Rattle.std.proofs.Common.{◌≡◌, arith}
use Rattle.pkread.specs.Private.Arms.{HasFixedLength}
use Rattle.pkread.proofs.Bytes.Front.{fixed_front}
use Rattle.pkread.proofs.front.front_of.Goals as goal

pub returns : goal.returns
returns c =
    let op = c.start_of-start.result.op in
    let same = c.from-length.ensures in
    let some = λ (e : c.start_of-start.result.length ≡ 0). c.if-length-eq0.false (rw same e) in
    let code = c.start_of-start.ensures.code (λ stop. some) in
    let fixed : HasFixedLength op c.from-length.result =
    rw same (c.start_of-start.ensures.fixed op code some)
    in
    fixed_front c.growth.ensures.field c.args.limits.now c.from-length.result op
    c.args.bytes.now fixed (λ i. let fits = c.type_inv.bytes i in omega (arith, fits))
    c.if-length-bytes.false code
