-- Searching the parts left, with the counts so far, finds what searching all from 0 finds.
use Rattle.std.proofs.Common.{◌≡◌, ◌<◌, ◌≤◌, ◌^◌, drop}
use Rattle.pkopt.specs.Private.Places.{end_behind, places_behind}
use Rattle.pkopt.specs.Private.Produced.{first_past}
use Rattle.pkopt.proofs.slim.first_past.Given as goal

abbrev pub invariant-loop-part : goal.invariant-loop-part
invariant-loop-part l = record {
  few_writes : l.pass.writes ≤ l.part-index;
  few_reads : l.pass.reads ≤ l.part-index;
  short : end_behind l.end (drop l.part-index l.parts) < 2 ^ 64;
  same : first_past l.plan (places_behind l.end (drop l.part-index l.parts)) l.pass.writes
      l.pass.reads
      ≡ first_past l.plan (places_behind 0 l.parts) 0 0;
}
