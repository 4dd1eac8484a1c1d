-- The marks are those of the early sources passed, in a list with one for each value of a byte.
use Rattle.std.proofs.Common.{◌<◌, length, take}
use Rattle.pkopt.specs.Private.Passes.{KeepsMore}
use Rattle.pkopt.specs.Private.Sourced.{in_bytes}
use Rattle.pkopt.proofs.sources.keep_early.Given as goal

abbrev pub invariant-loop-write : goal.invariant-loop-write
invariant-loop-write l = record {
  marked : KeepsMore l.initial.kept.items l.kept.items (in_bytes (take l.write-index l.early));
  there : 255 < length l.kept.items;
}
