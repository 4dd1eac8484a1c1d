-- The writes passed have their numbers, and the next one is at most the limit.
use Rattle.std.proofs.Common.{◌≡◌, ◌≤◌, ℕ, List, Option, length}
use Rattle.pkopt.specs.Private.Passes.{AreKept}
use Rattle.pkopt.proofs.MemoWrites.WritesKept.{NumbersTo}
use Rattle.pkopt.proofs.numbers.numbered.Given as goal

abbrev pub invariant-loop-write : goal.invariant-loop-write
invariant-loop-write l = record {
  count : length l.numbers.items ≡ length l.kept;
  within : l.next ≤ l.limit;
  each : (vs : List (Option ℕ)) → AreKept vs l.kept
      → NumbersTo vs l.write l.limit l.next l.numbers.items;
}
