-- The first fault of the modules is in those still to come.
use Rattle.std.proofs.Common.{◌≡◌}
use Rattle.toml.specs.View.{members_view, table_view}
use Rattle.pklist.specs.ListFile.{modules_fault}
use Rattle.pklist.proofs.allow.rules.modules_fault.Given as goal

abbrev pub invariant-loop-module_name : goal.invariant-loop-module_name
invariant-loop-module_name l = modules_fault (members_view l.module_name-iterator)
    ≡ modules_fault (table_view l.imports)
