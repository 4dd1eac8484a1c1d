-- A first operand that stays is an object, so ending with it leaves the marks below it.
use Rattle.std.proofs.Common.{◌∙◌, ap, sym}
use Rattle.pkstack.specs.Places.{above, below}
use Rattle.pkstack.specs.Shape.{marks_of}
use Rattle.pkmachine.proofs.Places.{front_marks}
use Rattle.pkmachine.proofs.operate.given.give.Goals as goal

pub end_with-requires-clause-marks : goal.end_with-requires-clause-marks
end_with-requires-clause-marks g c = c.requires.marks
    ∙ sym (ap marks_of (c.requires.first c.in-None.is)
    ∙ front_marks (above c.args.place c.args.stack.now)
    (below c.args.place c.args.stack.now))
