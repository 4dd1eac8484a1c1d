-- The marks up to the end are the first of the noted places, as many as the caller counted.
use Rattle.std.proofs.Common.{◌≡◌, ◌+◌, ◌∙◌, length, take, ap, sym, arith}
use Rattle.pkstack.specs.Places.{below}
use Rattle.pkstack.specs.Private.Slots.{bars}
use Rattle.pkstack.specs.Shape.{marks_of}
use Rattle.pkstack.proofs.Bars.{marks_cut}
use Rattle.pkstack.proofs.Places.{below_marks, below_shown, how_long}
use Rattle.pkstack.proofs.stack.Stack.end_with.Goals as goal

pub end_with-requires : goal.end_with-requires
end_with-requires g c =
    let long = how_long c.self.inside.slots c.args.self.now c.self.view_is in
    omega (arith, long, c.requires.there)

pub returns : goal.returns
returns g c = rw c.end_with.ensures
    (sym (below_shown (c.args.place + 1) c.self.inside.slots)
    ∙ ap (below (c.args.place + 1)) c.self.view_is)

pub invariant_of-self : goal.invariant_of-self
invariant_of-self g c =
    let marks : c.args.marks ≡ length (bars 0 (take (c.args.place + 1) c.self.inside.slots)) =
    c.requires.marks ∙ ap (λ es. marks_of (below (c.args.place + 1) es)) (sym c.self.view_is)
    ∙ sym (below_marks (c.args.place + 1) c.self.inside.slots) in
    rw (c.truncate.ensures, c.end_with.ensures)
    (marks_cut c.self.inside.slots _ (c.args.place + 1) c.args.marks c.self.invariant marks)
