-- What was passed has been sent, and each call has fewer levels left.
use Rattle.std.proofs.Common.{◌+◌, ◌*◌}
use Rattle.pkjson.specs.Private.Nodes.{heap}
use Rattle.pkjson.proofs.Parts.Sent.{ItemsSoFar, MembersSoFar}
use Rattle.pkjson.proofs.writing.+sending.Given as goal

abbrev pub decreases-send : goal.decreases-send
decreases-send g l = 2 * l.levels

abbrev pub decreases-send_items : goal.decreases-send_items
decreases-send_items g l = 2 * l.levels + 1

abbrev pub decreases-send_members : goal.decreases-send_members
decreases-send_members g l = 2 * l.levels + 1

abbrev pub invariant-send_items-loop-item : goal.invariant-send_items-loop-item
invariant-send_items-loop-item g l = ItemsSoFar (heap l.nodes) l.items l.item-index
    (g.S.Serializer.written l.initial.out) (g.S.Serializer.written l.out)

abbrev pub invariant-send_members-loop-key : goal.invariant-send_members-loop-key
invariant-send_members-loop-key g l = MembersSoFar (heap l.nodes) l.members l.key-index
    (g.S.Serializer.written l.initial.out) (g.S.Serializer.written l.out)
