-- Each turn halves what is left to search, and the answer stays that of the whole array.
use Rattle.std.proofs.Common.{◌≡◌, ℕ, ◌-◌, ◌≤◌, length}
use Rattle.pklist.specs.Pairs.{comes_to, found, order_to}
use Rattle.pklist.proofs.pairs.found.Given as goal

abbrev pub decreases-halves : goal.decreases-halves
decreases-halves l = l.high - l.low

abbrev pub invariant-halves : goal.invariant-halves
invariant-halves l =
    (l.high ≤ length l.pairs)
    × ((steps : ℕ) × (l.high - l.low ≤ steps)
    × (comes_to (order_to l.module_name l.name) l.pairs steps l.low l.high
    ≡ found l.pairs l.module_name l.name))
