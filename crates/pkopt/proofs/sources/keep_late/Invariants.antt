-- The marks are those from before and those of the late sources passed.
use Rattle.std.proofs.Common.{take}
use Rattle.pkopt.specs.Private.Passes.{KeepsMore}
use Rattle.pkopt.proofs.sources.keep_late.Given as goal

abbrev pub invariant-loop-source : goal.invariant-loop-source
invariant-loop-source l = record {
  marked : KeepsMore l.initial.kept.items l.kept.items (take l.source-index l.late);
}
