-- A key that is none of the known ones is among those still to come, or nowhere.
use Rattle.std.proofs.Common.{◌≡◌}
use Rattle.toml.specs.View.{members_view, table_view}
use Rattle.pklist.specs.ListFile.{keys_fault}
use Rattle.pklist.proofs.allow.rules.keys_fault.Given as goal

abbrev pub invariant-loop-key : goal.invariant-loop-key
invariant-loop-key l = keys_fault l.limited (members_view l.key-iterator)
    ≡ keys_fault l.limited (table_view l.document)
