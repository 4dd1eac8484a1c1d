-- What comes before the next piece is written, and each call has fewer levels or fewer parts.
use Rattle.std.proofs.Common.{◌≤◌, ◌+◌, ◌-◌, ◌*◌, length, take}
use Rattle.pkjson.specs.Private.Nodes.{heap, named_members}
use Rattle.pkjson.specs.Private.Pieces.{WritesItems, WritesMembers}
use Rattle.pkjson.proofs.pieces.+putting.Given as goal

abbrev pub decreases-write_value : goal.decreases-write_value
decreases-write_value g l = 3 * l.levels

abbrev pub decreases-write_items : goal.decreases-write_items
decreases-write_items g l = 3 * l.levels + 2

abbrev pub decreases-write_some_items : goal.decreases-write_some_items
decreases-write_some_items g l = 3 * l.levels + 1

abbrev pub decreases-write_members : goal.decreases-write_members
decreases-write_members g l = 3 * l.levels + 2

abbrev pub decreases-write_some_members : goal.decreases-write_some_members
decreases-write_some_members g l = 3 * l.levels + 1

abbrev pub invariant-write_items-loop-first : goal.invariant-write_items-loop-first
invariant-write_items-loop-first g l = record {
  within : l.first ≤ length l.items;
  written : WritesItems (heap l.weighed.nodes.now) (take l.first l.items)
      (g.W.Write.contents l.initial.out) (g.W.Write.contents l.out);
}

abbrev pub invariant-write_members-loop-first : goal.invariant-write_members-loop-first
invariant-write_members-loop-first g l = record {
  within : l.first ≤ length l.members;
  written : WritesMembers (heap l.weighed.nodes.now) (take l.first (named_members l.members))
      (g.W.Write.contents l.initial.out) (g.W.Write.contents l.out);
}

abbrev pub decreases-write_items-loop-first : goal.decreases-write_items-loop-first
decreases-write_items-loop-first g l = length l.items - l.first

abbrev pub decreases-write_members-loop-first : goal.decreases-write_members-loop-first
decreases-write_members-loop-first g l = length l.members - l.first
