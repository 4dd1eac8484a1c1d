-- The rules still to come have the first fault, since those before them have none.
use Rattle.std.proofs.Common.{◌≡◌}
use Rattle.toml.specs.View.{members_view, table_view}
use Rattle.pklist.specs.ListFile.{each_rule_fault}
use Rattle.pklist.proofs.allow.costs.each_rule_fault.Given as goal

abbrev pub invariant-loop-key : goal.invariant-loop-key
invariant-loop-key l = each_rule_fault (members_view l.key-iterator)
    ≡ each_rule_fault (table_view l.rules)
