-- An object, with the place of its members, shows the node that the heap has for it.
use Rattle.std.proofs.Common.{ap, subst, ◌∙◌}
use Rattle.std.specs.Prelude.{slice_index}
use Rattle.pkjson.specs.Private.Nodes.{node_of, Shows}
use Rattle.pkjson.proofs.Parts.NodesHeld.{node_there}
use Rattle.pkjson.proofs.settled.Settled.node.Goals as goal

pub returns : goal.returns
returns c =
    let o = c.index-objects-number.result in
    let n = c.node_of.result in
    let p = c.place_at-place.ensures ∙ ap (λ ps. slice_index ps c.args.number)
    c.deref.ensures.value in
    let w = subst (λ x. Shows (node_of c.deref-2.result.now x o) n) p c.node_of.ensures in
    node_there c.args.self.now c.args.number o n c.requires c.index-objects-number.is
    (rw c.deref-2.ensures.value at w)
