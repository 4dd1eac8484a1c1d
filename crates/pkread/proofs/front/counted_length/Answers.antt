-- Count and payload lie within the bytes and the limit, so the instruction is there as a whole.
use Rattle.std.proofs.Common.{ℕ, ◌+◌, ◌-◌, ap, refl, subst, arith, drop, take}
use Rattle.std.specs.Str.{IsUtf8}
use Rattle.pkread.proofs.Bytes.Front.{counted_front}
use Rattle.pkread.proofs.front.counted_length.Goals as goal

pub returns : goal.returns
returns g ne =
    let width = g.args.width in
    let bytes = g.args.bytes.now in
    let whole = g.in-Some.ensures.0 in
    let head = ap (λ pair. pair.0) g.in-Some.ensures.1 in
    let count = ap (λ pair. pair.1) g.in-Some.ensures.1 in
    let enough = g.if-bytes-head.false in
    let within = g.if-count-limit_of.false in
    counted_front g.growth.ensures.count g.args.limits.now _ g.args.op width bytes g.requires.lay
    (λ i. let fits = g.type_inv.bytes i in omega (arith, fits)) g.requires.code
    whole (rw (count, g.limit_of.ensures) at within)
    (rw (head, count) refl)
    (omega (arith, whole, head, enough))
    (λ e. subst
    (λ (m : ℕ). IsUtf8 (take (g.in-Some.head + g.in-Some.count - m)
    (drop m bytes))) head (g.if-not-takes_payload.ensures refl e))
