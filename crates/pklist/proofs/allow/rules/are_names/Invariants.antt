-- All values are names if those still to come are.
use Rattle.std.proofs.Common.{◌≡◌, drop}
use Rattle.toml.specs.View.{items_view}
use Rattle.pklist.specs.ListFile.{are_names}
use Rattle.pklist.proofs.allow.rules.are_names.Given as goal

abbrev pub invariant-loop-value : goal.invariant-loop-value
invariant-loop-value l = are_names (items_view (drop l.value-index l.values.items))
    ≡ are_names (items_view l.values.items)
