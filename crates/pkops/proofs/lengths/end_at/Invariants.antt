-- What is searched for stands in what is left, behind the pieces that were searched.
use Rattle.std.proofs.Common.{◌≡◌, ◌≤◌, ◌-◌, ◌==◌, ◌||◌, length, position}
use Rattle.std.specs.List.{position_from}
use Rattle.pkops.proofs.lengths.end_at.Given as goal

abbrev pub invariant-pieces : goal.invariant-pieces
invariant-pieces l = record {
  less : length l.rest ≤ length l.bytes;
  left : position (λ byte. byte == 10 || byte == l.other) l.bytes
      ≡ position_from (λ byte. byte == 10 || byte == l.other) (length l.bytes - length l.rest)
      l.rest;
}

abbrev pub decreases-pieces : goal.decreases-pieces
decreases-pieces l = length l.rest
