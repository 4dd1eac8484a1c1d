-- The substitutes written are those of the names passed, and only those left are missing.
use Rattle.std.proofs.Common.{◌≡◌, ◌++◌, ℕ, List}
use Rattle.toml.specs.View.{members_view, table_view}
use Rattle.pkguard.specs.Encoding.{encoded_all}
use Rattle.pkguard.specs.Listed.{substitutes_at}
use Rattle.pkguard.specs.Private.Written.{IsWritten}
use Rattle.pkguard.proofs.list.put_rows.Given as goal

abbrev pub invariant-loop-name : goal.invariant-loop-name
invariant-loop-name l =
    (done : List ℕ)
    × (done ++ encoded_all (substitutes_at (members_view l.name-iterator))
    ≡ encoded_all (substitutes_at (table_view l.substitutes)))
    × IsWritten done l.initial.room l.room l.next
