-- Each write is marked as it was at first, and the list is longer by one each turn.
use Rattle.std.proofs.Common.{◌≡◌, ◌+◌, ◌-◌, ℕ, get_or, length, false}
use Rattle.pkopt.proofs.numbers.reach_slowly.Given as goal

abbrev pub invariant-unread : goal.invariant-unread
invariant-unread l = record {
  same : (w : ℕ) → get_or l.kept.items w false ≡ get_or l.initial.kept.items w false;
}

abbrev pub decreases-unread : goal.decreases-unread
decreases-unread l = l.write + 1 - length l.kept.items
