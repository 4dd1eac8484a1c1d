-- Cut at the topmost mark, the slots show what lies below the slice.
use Rattle.std.proofs.Common.{◌≡◌, ◌∙◌, [], Ok, drop, take, subst, sym, ap}
use Rattle.pkstack.specs.Shape.{slice}
use Rattle.pkstack.specs.Private.Slots.{shown, values_of}
use Rattle.pkstack.specs.Places.{below}
use Rattle.pkstack.proofs.Places.{below_shown}
use Rattle.pkstack.proofs.stack.Stack.pop_mark.Goals as goal

pub returns-in-Some-clause-ok : goal.returns-in-Some-clause-ok
returns-in-Some-clause-ok g c =
    let found = rw c.entries.ensures at c.in-Some.ensures.value.1 in
    let left : c.truncate.new.self ≡ shown (take c.in-Some.place c.self.inside.slots)
    [] = c.truncate.ensures ∙ ap (below c.in-Some.place) (sym c.self.view_is)
    ∙ below_shown c.in-Some.place c.self.inside.slots in (
      values_of (drop c.in-Some.place c.self.inside.slots),
      rw left
          (subst
          (λ es. slice es []
          ≡ Ok
          (record {
            operands = values_of (drop c.in-Some.place c.self.inside.slots);
            below = shown (take c.in-Some.place c.self.inside.slots) [];
          })) c.self.view_is found),
    )
