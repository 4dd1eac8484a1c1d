-- The pairs written and those of the names left are all pairs of the module.
use Rattle.std.proofs.Common.{◌≡◌, ◌++◌, ℕ, List, drop}
use Rattle.toml.specs.View.{items_view}
use Rattle.pkguard.specs.Encoding.{encoded_all}
use Rattle.pkguard.specs.Listed.{pairs_among}
use Rattle.pkguard.specs.Private.Written.{IsWritten}
use Rattle.pkguard.proofs.list.put_each.Given as goal

abbrev pub invariant-loop-name : goal.invariant-loop-name
invariant-loop-name l =
    (done : List ℕ)
    × (done ++ encoded_all
    (pairs_among l.module_name (items_view (drop l.name-index l.names.items)))
    ≡ encoded_all (pairs_among l.module_name (items_view l.names.items)))
    × ((front before : List ℕ) → IsWritten front before l.initial.room l.initial.at
    → IsWritten (front ++ done) before l.room l.next)
