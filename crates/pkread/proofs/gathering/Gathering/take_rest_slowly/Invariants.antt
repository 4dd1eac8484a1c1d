-- The bytes of the blocks so far and those left are as many as were asked for.
use Rattle.std.proofs.Common.{◌≡◌, ◌+◌, length, List, ℕ}
use Rattle.pkread.specs.Private.Progress.{KeepsRest, intake}
use Rattle.pkread.specs.Private.Reads.{Took}
use Rattle.pkread.proofs.gathering.Gathering.take_rest_slowly.Given as goal

abbrev pub invariant-blocks-2 : goal.invariant-blocks-2
invariant-blocks-2 g l =
    let now = intake g.R.Source.left g.R.Source.failures in
    record {
      took : (c : List ℕ) × Took c (now l.initial.source l.initial.self) (now l.source l.self)
          × (length c + l.left ≡ l.count);
      keeps : KeepsRest l.initial.self l.self;
    }

abbrev pub decreases-blocks-2 : goal.decreases-blocks-2
decreases-blocks-2 g l = l.left
