-- An object set at a place has below it the marks that the caller counted, and none above.
use Rattle.std.proofs.Common.{◌≡◌, ◌∙◌, ◌∷◌, [], length, take, ap, sym, arith}
use Rattle.pkstack.specs.declared.cells.Slot.TheVariants.{Object}
use Rattle.pkstack.specs.Places.{below}
use Rattle.pkstack.specs.Shape.{Item, marks_of}
use Rattle.pkstack.specs.Private.Slots.{bars}
use Rattle.pkstack.proofs.Bars.{bars_pushed, marks_cut}
use Rattle.pkstack.proofs.Places.{below_marks, below_shown, how_long}
use Rattle.pkstack.proofs.Shown.{shown_append}
use Rattle.pkstack.proofs.stack.Stack.replace_all.Goals as goal

pub replace-requires : goal.replace-requires
replace-requires g c =
    let long = how_long c.self.inside.slots c.args.self.now c.self.view_is in
    omega (arith, long, c.requires.at)

pub returns : goal.returns
returns g c = rw (c.replace.ensures, c.object.ensures)
    (shown_append (take c.args.place c.self.inside.slots) (Object c.args.value ∷ []) []
    ∙ ap (λ es. Item c.args.value ∷ es)
    (sym (below_shown c.args.place c.self.inside.slots) ∙ ap (below c.args.place) c.self.view_is))

pub invariant_of-self : goal.invariant_of-self
invariant_of-self g c =
    let marks : c.args.marks ≡ length (bars 0 (take c.args.place c.self.inside.slots)) =
    c.requires.marks ∙ ap (λ es. marks_of (below c.args.place es)) (sym c.self.view_is)
    ∙ sym (below_marks c.args.place c.self.inside.slots) in
    rw (c.truncate.ensures, c.replace.ensures, c.object.ensures)
    (marks_cut c.self.inside.slots _ c.args.place c.args.marks c.self.invariant marks
    ∙ sym (bars_pushed (take c.args.place c.self.inside.slots) c.args.value))
