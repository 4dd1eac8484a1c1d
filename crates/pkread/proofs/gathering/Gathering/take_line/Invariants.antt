-- No byte so far is a line feed, and with the bytes still allowed they make the greatest length.
use Rattle.std.proofs.Common.{◌≡◌, ◌≢◌, ◌+◌, length, List, ℕ}
use Rattle.std.specs.List.{AllByRecursion}
use Rattle.pkread.specs.Private.Progress.{KeepsRest, intake}
use Rattle.pkread.specs.Private.Reads.{Took}
use Rattle.pkread.proofs.gathering.Gathering.take_line.Given as goal

abbrev pub invariant-bytes : goal.invariant-bytes
invariant-bytes g l =
    let now = intake g.R.Source.left g.R.Source.failures in
    record {
      took : (c : List ℕ) × Took c (now l.initial.source l.initial.self) (now l.source l.self)
          × (length c + l.left ≡ l.most) × AllByRecursion (λ byte. byte ≢ 10) c;
      keeps : KeepsRest l.initial.self l.self;
    }

abbrev pub decreases-bytes : goal.decreases-bytes
decreases-bytes g l = l.left
