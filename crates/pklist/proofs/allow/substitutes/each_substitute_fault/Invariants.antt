-- The substitutes still to come have the first fault, since those before them have none.
use Rattle.std.proofs.Common.{◌≡◌}
use Rattle.toml.specs.View.{members_view, table_view}
use Rattle.pklist.specs.ListFile.{each_substitute_fault}
use Rattle.pklist.proofs.allow.substitutes.each_substitute_fault.Given as goal

abbrev pub invariant-loop-key : goal.invariant-loop-key
invariant-loop-key l = each_substitute_fault (members_view l.key-iterator)
    ≡ each_substitute_fault (table_view l.substitutes)
