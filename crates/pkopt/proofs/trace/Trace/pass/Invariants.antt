-- The parts recorded and the bytes left are the bytes to pass; memo and sources are as they were.
use Rattle.std.proofs.Common.{◌≡◌, ◌+◌}
use Rattle.pkopt.specs.Private.Passes.{Skips}
use Rattle.pkopt.proofs.trace.Trace.pass.Given as goal

abbrev pub invariant-loop-left : goal.invariant-loop-left
invariant-loop-left l = record {
  skips : Skips l.initial.self l.self;
  moved : l.self.end + l.left ≡ l.initial.self.end + l.count;
  writes : l.self.writes ≡ l.initial.self.writes;
  memo : l.self.memo ≡ l.initial.self.memo;
  sources : l.self.sources.items ≡ l.initial.self.sources.items;
}

abbrev pub decreases-loop-left : goal.decreases-loop-left
decreases-loop-left l = l.left
