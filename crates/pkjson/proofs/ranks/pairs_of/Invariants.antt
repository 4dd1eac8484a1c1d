-- All numbers paired so far are below the count.
use Rattle.std.proofs.Common.{All, ◌<◌}
use Rattle.pkjson.proofs.ranks.pairs_of.Given as goal

abbrev pub invariant-loop-number : goal.invariant-loop-number
invariant-loop-number l = All (λ x. x < l.count) l.pairs.items
