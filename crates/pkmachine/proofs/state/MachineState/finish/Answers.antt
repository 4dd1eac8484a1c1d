-- Entries stand for equally many objects and marks, so a second one is left over at STOP.
use Rattle.std.proofs.Common.{arith}
use Rattle.pkmachine.specs.Private.Slots.{remembered, seen}
use Rattle.pkmachine.proofs.StepParts.GoesOn.{stop_left}
use Rattle.pkmachine.proofs.ResolvedEntries.{length_seen, top_seen}
use Rattle.pkmachine.proofs.state.MachineState.finish.Goals as goal

pub returns-then-len-gt1-clause-err : goal.returns-then-len-gt1-clause-err
returns-then-len-gt1-clause-err g c =
    let e = top_seen c.self.inside.table.texts c.self.inside.stack _ c.in_ok-top.ensures.ok in
    let n = length_seen c.self.inside.table.texts c.self.inside.stack in
    rw (← c.self.view_is)
    (stop_left (seen c.self.inside.table.texts c.self.inside.stack)
    (remembered c.self.inside.table.texts c.self.inside.memo) _ e
    (omega (arith, n, c.len.ensures)))
