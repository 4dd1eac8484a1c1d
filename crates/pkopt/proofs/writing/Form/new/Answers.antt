-- The measure of the slim form gives the front and the length, with no sum past 64 bits.
use Rattle.std.proofs.Common.{◌∙◌, ◌-◌, [], ap, arith, cond, refl}
use Rattle.pkopt.specs.Private.FrameBytes.{front_from, head_from}
use Rattle.pkopt.specs.Private.Outputs.{slim_bytes}
use Rattle.pkopt.proofs.OneFrame.Fronts.{fronted, fronted_length}
use Rattle.pkopt.proofs.writing.Form.new.Goals as goal

pub invariant_of-result : goal.invariant_of-result
invariant_of-result c =
    let m = c.in_ok-measure.measure in
    let plan = c.args.plan in
    let bytes = c.args.bytes.now in
    let taken = c.args.taken in
    let slim = rw c.deref-2.ensures.value at c.in_ok-measure.ensures in
    let made = rw c.deref.ensures.value at c.in_ok-made.ensures in
    let front = c.in_ok-front.front in
    let fits = c.in_ok-front.ensures.fits in
    let count = slim.count in
    let size = front.bytes.ok.0 in
    let len = c.len.ensures in
    let sum = c.in-Some.ensures.1 in (
      c.requires.within,
      c.requires.there,
      omega (arith, fits, count),
      made,
      fronted_length m (slim_bytes plan bytes taken c.args.parts.list.items) front.bytes.items
          front.head (m.len - front.head) c.in-Some.len slim fits refl
          (omega (arith, size, len, sum)),
    )

pub returns-clause-bytes : goal.returns-clause-bytes
returns-clause-bytes c =
    let m = c.in_ok-measure.measure in
    let slim = rw c.deref-2.ensures.value at c.in_ok-measure.ensures in
    let framed = c.requires.framed in
    fronted _ m _ _ _ slim
    (c.in_ok-front.ensures.bytes ∙ ap (λ b. cond b (front_from m) []) framed)
    (c.in_ok-front.ensures.head ∙ ap (λ b. cond b (head_from m) 0) framed)

pub returns-clause-short : goal.returns-clause-short
returns-clause-short c =
    let m = c.in_ok-measure.measure in
    let slim = rw c.deref-2.ensures.value at c.in_ok-measure.ensures in
    let count = slim.count in
    let small = c.in_ok-front.ensures.small in
    omega (arith, count, small)
