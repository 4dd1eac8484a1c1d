-- An operation without an import changes the stack alone; the memo refers to texts as before.
use Rattle.std.proofs.lemmas.Result.{err_from_is_err_and}
use Rattle.pkmachine.specs.Private.Items.{items_in}
use Rattle.pkmachine.specs.Private.Slots.{remembered}
use Rattle.pkmachine.proofs.state.MachineState.operate.Goals as goal

pub returns-in_err-operate_unnamed-clause-err : goal.returns-in_err-operate_unnamed-clause-err
returns-in_err-operate_unnamed-clause-err g c p i =
    let q = err_from_is_err_and c.from_residual.result c.from_residual.ensures.1 in
    rw (q.1, q.2)
    (rw (← c.self.view_is)
    (c.in_err-operate_unnamed.ensures.err c.self.inside.table.texts c.self.invariant.entries p
    i (remembered c.self.inside.table.texts c.self.inside.memo)))

pub invariant_of-self-2 : goal.invariant_of-self-2
invariant_of-self-2 g c =
    record {
      entries = c.in_ok-operate_unnamed.ensures.sees c.self.inside.table.texts
          c.self.invariant.entries;
      memo = c.self.invariant.memo;
    }

pub returns-clause-ok : goal.returns-clause-ok
returns-clause-ok g c p i = rw (← c.self.view_is)
    (c.in_ok-operate_unnamed.ensures.ok c.self.inside.table.texts c.self.invariant.entries p i
    (remembered c.self.inside.table.texts c.self.inside.memo) c.self.inside.table.asked)

pub returns-clause-carried : goal.returns-clause-carried
returns-clause-carried g c i same = rw (← c.self.view_is)
    (c.in_ok-operate_unnamed.ensures.followed i same (items_in c.self.inside.memo))
