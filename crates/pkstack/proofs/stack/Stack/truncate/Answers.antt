-- The noted places below the cut are those of the marks that stay.
use Rattle.pkstack.proofs.Bars.{cut_below}
use Rattle.pkstack.proofs.stack.Stack.truncate.Goals as goal

pub invariant_of-self : goal.invariant_of-self
invariant_of-self g c =
    let cut = rw c.entries.ensures at c.marks_below-left.ensures in
    rw (c.truncate.ensures, c.truncate-2.ensures)
    (cut_below c.self.inside.slots c.self.inside.places c.args.count _ c.self.invariant cut)
