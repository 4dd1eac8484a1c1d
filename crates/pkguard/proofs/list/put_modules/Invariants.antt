-- The pairs written are those of the modules passed, and only those left are missing.
use Rattle.std.proofs.Common.{◌≡◌, ◌++◌, ℕ, List}
use Rattle.toml.specs.View.{members_view, table_view}
use Rattle.pkguard.specs.Encoding.{encoded_all}
use Rattle.pkguard.specs.Listed.{pairs_at}
use Rattle.pkguard.specs.Private.Written.{IsWritten}
use Rattle.pkguard.proofs.list.put_modules.Given as goal

abbrev pub invariant-loop-module_name : goal.invariant-loop-module_name
invariant-loop-module_name l =
    (done : List ℕ)
    × (done ++ encoded_all (pairs_at (members_view l.module_name-iterator))
    ≡ encoded_all (pairs_at (table_view l.modules)))
    × IsWritten done l.initial.room l.room l.next
