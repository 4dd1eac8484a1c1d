-- Knowledge has its marks where every covered state has them, so both have equally many.
use Rattle.std.proofs.Common.{◌∙◌}
use Rattle.pkmachine.specs.Covers.{TrueOf}
use Rattle.pkmachine.proofs.OpenMarks.{marks_alike}
use Rattle.pkmachine.proofs.machine.Machine.marks.Goals as goal

pub returns-clause-known : goal.returns-clause-known
returns-clause-known g c = rw (← c.self.view_is) c.marks.ensures

pub returns-clause-covered : goal.returns-clause-covered
returns-clause-covered g c s h = returns-clause-known g c
    ∙ marks_alike (TrueOf s.objects) c.args.self.now.view.knowledge.entries s.shape.entries
    h.entries
