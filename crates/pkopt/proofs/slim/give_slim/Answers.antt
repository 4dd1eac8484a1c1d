-- Each part ends within the bytes taken, so what the pass gives of it lies there.
use Rattle.std.proofs.Common.{arith, sym, subst, ap, ◌∙◌, ◌<◌, ◌+◌, ◌++◌, ℕ, List, drop}
use Rattle.pkopt.specs.declared.place.Part.{Part}
use Rattle.pkopt.specs.declared.place.Place.{Place}
use Rattle.pkopt.specs.declared.slim.Pass.{Pass}
use Rattle.pkopt.specs.Private.Passes.{memo_use}
use Rattle.pkopt.specs.Private.Places.{end_of, place_behind, places_behind}
use Rattle.pkopt.specs.Private.Produced.{emitted, fate_at}
use Rattle.pkopt.proofs.MemoWrites.Parts.{ends_short, short_behind}
use Rattle.pkopt.proofs.SlimForm.Steps.{few_reads, few_writes, from_least, produced_next, stepped}
use Rattle.pkopt.proofs.slim.give_slim.Goals as goal

pub place_behind-place-requires : goal.place_behind-place-requires
place_behind-place-requires g c =
    let short = subst (λ (x : Part). end_of c.loop-part.end x < c.args.taken + 1)
    (sym c.part-item.is)
    (ends_short (c.args.taken + 1) c.args.parts.now c.loop-part.end c.loop-part.part-index
    c.part-item.result c.loop-part-test.true c.loop-part.invariant.short) in
    let fits = c.ranges.taken.fits in
    omega (arith, short, fits)

pub overflow_add-end : goal.overflow_add-end
overflow_add-end g c =
    let is = c.place_behind-place.ensures
    ∙ ap (place_behind c.loop-part.end) c.part-item.is in
    let short =
    (short_behind c.args.parts.now c.loop-part.end c.loop-part.part-index
    c.part-item.result c.place_behind-place.result c.from.result c.loop-part-test.true is
    c.from.ensures (c.args.taken + 1) c.loop-part.invariant.short).0 in
    let fits = c.ranges.taken.fits in
    omega (arith, short, fits)

pub give-requires-clause-high : goal.give-requires-clause-high
give-requires-clause-high g c =
    let is = c.place_behind-place.ensures
    ∙ ap (place_behind c.loop-part.end) c.part-item.is in
    let short =
    (short_behind c.args.parts.now c.loop-part.end c.loop-part.part-index
    c.part-item.result c.place_behind-place.result c.from.result c.loop-part-test.true is
    c.from.ensures (c.args.taken + 1) c.loop-part.invariant.short).0 in
    let there = c.requires.there in
    let size = c.from.ensures in
    omega (arith, short, there, size)

pub loop-part-preserved : goal.loop-part-preserved
loop-part-preserved g c =
    let writes = c.loop-part.invariant.few_writes in
    let reads = c.loop-part.invariant.few_reads in
    let x = c.place_behind-place.result in
    let is = c.place_behind-place.ensures
    ∙ ap (place_behind c.loop-part.end) c.part-item.is in
    let pass = c.loop-part.pass in
    let so_far = c.loop-part.invariant.so_far in
    let next = produced_next c.args.plan.now c.args.bytes.now c.args.taken c.args.parts.now
    c.loop-part.end c.loop-part.part-index c.part-item.result x c.from.result pass
    c.loop-part-test.true is c.from.ensures in
    let later = places_behind (x.at + c.from.result)
    (drop (c.loop-part.part-index + 1) c.args.parts.now) in
    let size = c.from.ensures in
    let before = c.loop-part.invariant.behind in
    let at = ap (λ (y : Place). y.at) c.place_behind-place.ensures in
    let fate = fate_at c.args.plan.now x pass in
    let least = from_least fate x pass.from (omega (arith, before, at)) in
    let new = c.in_ok-give.ensures.pass in
    let now = ap (λ (p : Pass). p.from) new in
    let more_writes = few_writes (memo_use x.op) pass.writes in
    let more_reads = few_reads (memo_use x.op) pass.reads in
    let new_writes = ap (λ (p : Pass). p.writes) new in
    let new_reads = ap (λ (p : Pass). p.reads) new in
    let piece = emitted fate x c.args.bytes.now pass.from in
    record {
      few_writes = omega (arith, writes, more_writes, new_writes);
      few_reads = omega (arith, reads, more_reads, new_reads);
      short =
          (short_behind c.args.parts.now c.loop-part.end c.loop-part.part-index
          c.part-item.result x c.from.result c.loop-part-test.true is c.from.ensures
          (c.args.taken + 1) c.loop-part.invariant.short).1;
      behind = omega (arith, least, now, size);
      so_far = (
        so_far.0 ++ piece,
        g.met.S.Sink.takes_more _ _ _ so_far.0 piece so_far.1 c.in_ok-give.ensures.form,
        stepped c.args.plan.now c.args.bytes.now c.args.taken x later pass c.give.new.self
            so_far.0 _ new (ap (λ (l : List ℕ). so_far.0 ++ l) (sym next) ∙ so_far.2),
      );
    }
