-- A byte numbers a write below 256, and so far the list of marks reaches at once.
use Rattle.std.proofs.Common.{arith, refl, sym, true, ◌+◌}
use Rattle.std.proofs.lemmas.List.{length-set, take_all}
use Rattle.pkopt.specs.Private.Sourced.{in_bytes}
use Rattle.pkopt.proofs.MemoWrites.EarlyReads.{keeps_early, keeps_longer}
use Rattle.pkopt.proofs.sources.keep_early.Goals as goal

pub loop-write-preserved : goal.loop-write-preserved
loop-write-preserved c = let there = c.loop-write.invariant.there in record {
  marked = keeps_early c.reach.new.kept.items c.loop-write.kept.items c.loop-write.kept.items
      c.args.early.now (c.loop-write.write-index + 1) c.loop-write.write-index
      c.from-in-loop-write.result 0 (omega arith) c.loop-write-test.true
      (sym c.from-in-loop-write.ensures)
      (λ w. refl) (omega (arith, there)) c.loop-write.invariant.marked;
  there = omega (arith, there, length-set c.loop-write.kept.items c.from-in-loop-write.result true);
}

pub returns : goal.returns
returns c = keeps_longer c.args.kept.now.items c.reach.new.kept.items c.loop-write.kept.items
    (in_bytes c.args.early.now) c.in_ok-reach.ensures.same
    (rw (take_all c.loop-write.write-index c.args.early.now c.loop-write-test.false) at
    c.loop-write.invariant.marked)
