-- Each block read is cut off again, so the bytes held stay those before the payload.
use Rattle.std.proofs.Common.{◌++◌, length, take, ap, ◌∙◌, arith, length-append, take_at}
use Rattle.std.proofs.lemmas.Result.{err_from_is_err_and}
use Rattle.pkread.proofs.Bytes.Skipped.{lacks_over, took_over}
use Rattle.pkread.proofs.gathering.Gathering.skip_rest.Goals as goal

pub returns-in_err-left-clause-skips : goal.returns-in_err-left-clause-skips
returns-in_err-left-clause-skips g c =
    let p = err_from_is_err_and c.from_residual.result c.from_residual.ensures.1 in
    let k = c.blocks-2.invariant.took in
    let s = c.in_err-left.ensures.takes.1 in
    rw (p.1, p.2) (lacks_over c.args.count c.blocks-2.left k.0 _ _ _ _ k.1 k.2 s)

pub blocks-2-preserved : goal.blocks-2-preserved
blocks-2-preserved g c =
    let k = c.blocks-2.invariant.took in
    let rises = c.blocks-2.invariant.rises in
    let same = c.blocks-2.invariant.held in
    let b = c.in_ok-left.ensures.takes in
    let all = k.2 in
    let n = b.count in
    let within = b.within in
    let block = b.block in
    let few = c.requires in
    let held = b.took.held in
    let head = ap length c.bytes-head.ensures in
    let keeps = c.take_block.ensures.keeps in
    let stays = keeps.0 in
    let least = rises.least in
    let most = rises.most in
    let long = ap length held in
    let sum = length-append c.blocks-2.self.buffer.bytes b.bytes in
    let size = ap length same in
    let cut = c.cut.ensures in
    let bytes = ap (λ v. v.buffer.bytes) cut in
    let peak = ap (λ v. v.buffer.peak) cut in
    let limits = ap (λ v. v.limits) cut in
    record {
      took = (
        k.0 ++ b.bytes,
        rw cut (took_over k.0 b.bytes _ _ _ k.1 b.took),
        omega (arith, length-append k.0 b.bytes, all, n, within),
      );
      held = bytes ∙ (ap (take (length c.bytes-head.result.now)) held
          ∙ (take_at _ b.bytes _ (omega (arith, head, size)) ∙ same));
      rises = record {
        least = omega (arith, least, stays, peak);
        most = omega (arith, most, stays, peak, few, block, n, long, size, sum);
        limits = limits ∙ (keeps.1 ∙ rises.limits);
      };
    }
