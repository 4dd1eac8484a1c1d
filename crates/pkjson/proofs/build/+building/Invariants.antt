-- Each call has fewer levels left, and the values built are those of what was passed.
use Rattle.std.proofs.Common.{◌+◌, ◌*◌, take}
use Rattle.serde_json.specs.View.{items_view, members_view}
use Rattle.pkjson.specs.Unfolds.{UnfoldItems, UnfoldMembers}
use Rattle.pkjson.specs.Private.Nodes.{heap, named_members}
use Rattle.pkjson.proofs.build.+building.Given as goal

abbrev pub decreases-build : goal.decreases-build
decreases-build l = 2 * l.levels

abbrev pub decreases-build_items : goal.decreases-build_items
decreases-build_items l = 2 * l.levels + 1

abbrev pub decreases-build_members : goal.decreases-build_members
decreases-build_members l = 2 * l.levels + 1

abbrev pub invariant-build_items-loop-item : goal.invariant-build_items-loop-item
invariant-build_items-loop-item l = UnfoldItems (heap l.nodes) (take l.item-index l.items)
    (items_view l.values.items)

abbrev pub invariant-build_members-loop-key : goal.invariant-build_members-loop-key
invariant-build_members-loop-key l = UnfoldMembers (heap l.nodes)
    (named_members (take l.key-index l.members)) (members_view l.built.entries)
