-- A part carries its own conditions, so each kind of part may be sent.
use Rattle.std.proofs.Common.{◌<◌, rules, subst}
use Rattle.std.specs.Prelude.{All}
use Rattle.std.proofs.Math.Logic.{∥∥₁_elim}
use Rattle.pkjson.specs.Private.Nodes.{size}
use Rattle.pkjson.specs.Private.Parts.{IsPartBelow}
use Rattle.pkjson.proofs.Parts.Sent.{closed_prop, part_below_prop}
use Rattle.pkjson.proofs.writing.UnfoldedSerialize.serialize.Goals as goal

pub send-requires-clause-closed : goal.send-requires-clause-closed
send-requires-clause-closed g c = ∥∥₁_elim c.args.self.now.closed
    (closed_prop c.args.self.now.nodes.now) (λ closed. closed)

pub send-requires-clause-place : goal.send-requires-clause-place
send-requires-clause-place g c = subst (IsPartBelow (size c.args.self.now.nodes.now)) c.in-Object.is
    (∥∥₁_elim c.args.self.now.within (part_below_prop _ c.args.self.now.part) (λ within. within))

pub send_items-requires-clause-closed : goal.send_items-requires-clause-closed
send_items-requires-clause-closed g c = ∥∥₁_elim c.args.self.now.closed
    (closed_prop c.args.self.now.nodes.now) (λ closed. closed)

pub send_items-requires-clause-places : goal.send_items-requires-clause-places
send_items-requires-clause-places g c =
    let all : All (λ x. x < size c.args.self.now.nodes.now) c.in-Items.items.now =
    subst (IsPartBelow (size c.args.self.now.nodes.now)) c.in-Items.is
    (∥∥₁_elim c.args.self.now.within (part_below_prop _ c.args.self.now.part) (λ within. within)) in
    search (rules, all)

pub send_members-requires-clause-closed : goal.send_members-requires-clause-closed
send_members-requires-clause-closed g c = ∥∥₁_elim c.args.self.now.closed
    (closed_prop c.args.self.now.nodes.now) (λ closed. closed)

pub send_members-requires-clause-places : goal.send_members-requires-clause-places
send_members-requires-clause-places g c =
    let all : All (λ p. p.1 < size c.args.self.now.nodes.now) c.in-Members.members.now =
    subst (IsPartBelow (size c.args.self.now.nodes.now)) c.in-Members.is
    (∥∥₁_elim c.args.self.now.within (part_below_prop _ c.args.self.now.part) (λ within. within)) in
    search (rules, all)
