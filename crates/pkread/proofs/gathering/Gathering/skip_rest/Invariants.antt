-- Bytes passed over and bytes left make up the payload, of which nothing is held.
use Rattle.std.proofs.Common.{◌≡◌, ◌+◌, ◌++◌, length, List, ℕ}
use Rattle.pkread.specs.Private.Progress.{intake}
use Rattle.pkread.specs.Private.SkippedBytes.{RisesLittle, holding}
use Rattle.pkread.specs.Private.Reads.{Took}
use Rattle.pkread.proofs.gathering.Gathering.skip_rest.Given as goal

abbrev pub invariant-blocks-2 : goal.invariant-blocks-2
invariant-blocks-2 g l =
    let now = intake g.R.Source.left g.R.Source.failures in
    let old = now l.fn.source l.fn.self in
    record {
      took : (c : List ℕ) × Took c old (holding (old.bytes ++ c) (now l.source l.self))
          × (length c + l.left ≡ l.count);
      held : l.self.buffer.bytes ≡ l.fn.self.buffer.bytes;
      rises : RisesLittle l.fn.self l.self;
    }

abbrev pub decreases-blocks-2 : goal.decreases-blocks-2
decreases-blocks-2 g l = l.left
