-- The weights noted are right, and the sum is that of what was passed, within depth and cap.
use Rattle.std.proofs.Common.{◌≡◌, ◌≤◌, ◌+◌, ◌*◌, length, take}
use Rattle.pkjson.specs.Private.Nodes.{heap, size, named_members}
use Rattle.pkjson.specs.Private.Weighs.{ItemsWeigh, MembersWeigh, IsTrusted}
use Rattle.pkjson.proofs.judge.+judging.Given as goal

abbrev pub decreases-weigh : goal.decreases-weigh
decreases-weigh l = 3 * l.levels + 2

abbrev pub decreases-weigh_node : goal.decreases-weigh_node
decreases-weigh_node l = 3 * l.levels + 1

abbrev pub decreases-weigh_items : goal.decreases-weigh_items
decreases-weigh_items l = 3 * l.levels + 3

abbrev pub decreases-weigh_members : goal.decreases-weigh_members
decreases-weigh_members l = 3 * l.levels + 3

abbrev pub invariant-weigh_items-loop-item : goal.invariant-weigh_items-loop-item
invariant-weigh_items-loop-item l = record {
  same : length l.done ≡ size l.nodes;
  trusted : IsTrusted (heap l.nodes) l.cap l.done;
  depth : l.sum.depth ≤ l.levels;
  count : l.sum.count ≤ l.cap;
  sum : ItemsWeigh (heap l.nodes) l.cap (take l.item-index l.items) l.sum;
}

abbrev pub invariant-weigh_members-loop-key : goal.invariant-weigh_members-loop-key
invariant-weigh_members-loop-key l = record {
  same : length l.done ≡ size l.nodes;
  trusted : IsTrusted (heap l.nodes) l.cap l.done;
  depth : l.sum.depth ≤ l.levels;
  count : l.sum.count ≤ l.cap;
  sum : MembersWeigh (heap l.nodes) l.cap (named_members (take l.key-index l.members)) l.sum;
}
