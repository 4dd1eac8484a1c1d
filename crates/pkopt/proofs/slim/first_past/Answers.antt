-- Each part ends within 64 bits, because the last one does.
use Rattle.std.proofs.Common.{arith, ap, ◌∙◌, ◌^◌}
use Rattle.pkopt.specs.Private.Places.{place_behind}
use Rattle.pkopt.proofs.MemoWrites.Parts.{ends_short, short_behind}
use Rattle.pkopt.proofs.slim.first_past.Goals as goal

pub place_behind-place-requires : goal.place_behind-place-requires
place_behind-place-requires c =
    rw c.part-item.is (ends_short (2 ^ 64) c.args.parts.now c.loop-part.end c.loop-part.part-index
    c.part-item.result c.loop-part-test.true c.loop-part.invariant.short)

pub overflow_add-end : goal.overflow_add-end
overflow_add-end c =
    let is = c.place_behind-place.ensures
    ∙ ap (place_behind c.loop-part.end) c.part-item.is in
    let short =
    (short_behind c.args.parts.now c.loop-part.end c.loop-part.part-index
    c.part-item.result c.place_behind-place.result c.from.result c.loop-part-test.true is
    c.from.ensures (2 ^ 64) c.loop-part.invariant.short).0 in
    omega (arith, short)
