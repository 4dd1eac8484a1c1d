-- What the sink took, followed by what the parts left produce, is what all produce.
use Rattle.std.proofs.Common.{◌≡◌, ◌<◌, ◌≤◌, ◌+◌, ◌++◌, List, ℕ, drop}
use Rattle.pkopt.specs.Private.Places.{end_behind, places_behind}
use Rattle.pkopt.specs.Private.Produced.{at_start, produced}
use Rattle.pkopt.proofs.slim.give_slim.Given as goal

abbrev pub invariant-loop-part : goal.invariant-loop-part
invariant-loop-part g l = record {
  few_writes : l.pass.writes ≤ l.part-index;
  few_reads : l.pass.reads ≤ l.part-index;
  short : end_behind l.end (drop l.part-index l.parts) < l.taken + 1;
  behind : l.pass.from ≤ l.end;
  so_far : (o : List ℕ) × g.S.Sink.takes l.initial.sink l.sink o
      × (o ++ produced l.plan l.bytes l.taken (places_behind l.end (drop l.part-index l.parts))
      l.pass
      ≡ produced l.plan l.bytes l.taken (places_behind 0 l.parts) at_start);
}
