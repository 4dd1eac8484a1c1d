-- Operands begin on the stack at the place where they begin among its slots.
use Rattle.std.proofs.Common.{◌≡◌, ◌<◌, ◌∙◌, ◌≤◌, ◌+◌, ◌++◌, length, subst, arith}
use Rattle.pkstack.specs.Shape.{front, marks_of}
use Rattle.pkstack.specs.Places.{above, below}
use Rattle.std.proofs.lemmas.Result.{IfOk-weaker}
use Rattle.pkstack.proofs.Limited.{length_shown}
use Rattle.pkstack.proofs.Places.{below_marks, first_left, first_there, found_at}
use Rattle.pkstack.proofs.stack.Stack.find.Goals as goal

pub returns-clause-within : goal.returns-clause-within
returns-clause-within g c =
    let found = rw c.entries.ensures at c.place_of.ensures.ok in
    let same = length_shown c.self.inside.slots in
    IfOk-weaker c.place_of.result _ _
    (λ f h. subst (λ es. f.place ≤ length es) c.self.view_is (omega (arith, same, h.0))) found

pub returns-clause-ok : goal.returns-clause-ok
returns-clause-ok g c =
    let found = rw c.entries.ensures at c.place_of.ensures.ok in
    IfOk-weaker c.place_of.result _ _
    (λ f h. found_at c.args.takes f.place c.self.inside.slots c.args.self.now c.self.view_is
    h.1) found

pub returns-clause-first : goal.returns-clause-first
returns-clause-first g c =
    let well = rw c.entries.ensures at c.place_of.ensures.well in
    IfOk-weaker c.place_of.result _ _
    (λ f w h. subst
    (λ es. below (f.place + 1) es ≡ front (above f.place es) ++ below f.place es) c.self.view_is
    (first_left c.args.takes f.place c.self.inside.slots h w)) well

pub returns-clause-marks : goal.returns-clause-marks
returns-clause-marks g c =
    let marks = rw c.entries.ensures at c.place_of.ensures.marks in
    IfOk-weaker c.place_of.result _ _
    (λ f m. subst (λ es. f.marks ≡ marks_of (below f.place es)) c.self.view_is
    (m ∙ below_marks f.place c.self.inside.slots)) marks

pub returns-clause-there : goal.returns-clause-there
returns-clause-there g c =
    let well = rw c.entries.ensures at c.place_of.ensures.well in
    IfOk-weaker c.place_of.result _ _
    (λ f w h. subst (λ es. f.place < length es) c.self.view_is
    (first_there c.args.takes f.place c.self.inside.slots h w)) well
