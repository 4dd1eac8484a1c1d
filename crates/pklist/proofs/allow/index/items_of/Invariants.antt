-- What the set has and the values still to come are together the values of the array.
use Rattle.std.proofs.Common.{◌≡◌, ◌||◌, drop}
use Rattle.std.specs.BTreeSet.{contains_text}
use Rattle.toml.specs.View.{items_view}
use Rattle.pklist.specs.ListFile.{Text, items_have}
use Rattle.pklist.proofs.allow.index.items_of.Given as goal

abbrev pub invariant-loop-value : goal.invariant-loop-value
invariant-loop-value l =
    (n : Text)
    → (contains_text l.set n || items_have n (items_view (drop l.value-index l.values.items)))
    ≡ items_have n (items_view l.values.items)
