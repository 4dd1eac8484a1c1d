-- What entries stand for has just the marks that the entries have.
use Rattle.std.proofs.Common.{◌∙◌}
use Rattle.pkmachine.proofs.ResolvedEntries.{marks_seen}
use Rattle.pkmachine.proofs.state.MachineState.marks.Goals as goal

pub returns : goal.returns
returns g c = rw (← c.self.view_is)
    (c.marks.ensures ∙ marks_seen c.self.inside.table.texts c.self.inside.stack)
