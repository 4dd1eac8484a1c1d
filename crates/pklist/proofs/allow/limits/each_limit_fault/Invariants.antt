-- The limits still to come have the first fault, since those before them have none.
use Rattle.std.proofs.Common.{◌≡◌}
use Rattle.toml.specs.View.{members_view, table_view}
use Rattle.pklist.specs.ListFile.{each_limit_fault}
use Rattle.pklist.proofs.allow.limits.each_limit_fault.Given as goal

abbrev pub invariant-loop-key : goal.invariant-loop-key
invariant-loop-key l = each_limit_fault l.most (members_view l.key-iterator)
    ≡ each_limit_fault l.most (table_view l.limits)
