-- Of every head that was gathered something is held, so the reader can give it.
use Rattle.std.proofs.Common.{refl}
use Rattle.pkread.proofs.Calls.NextHead.{some_held}
use Rattle.pkread.proofs.state.Core.collect_head.Goals as goal

pub give_head-requires-clause-some : goal.give_head-requires-clause-some
give_head-requires-clause-some g c =
    let took = rw c.in-Ok.is at c.gather_head-gathered.ensures.takes in
    some_held c.keep.new.gathering.limits c.in-Ok.head _ _ _ _ took

pub returns-in-Ok-clause-collects : goal.returns-in-Ok-clause-collects
returns-in-Ok-clause-collects g c =
    let took = rw c.in-Ok.is at c.gather_head-gathered.ensures.takes in
    rw (← c.self.view_is, c.give_head.ensures) (refl, rw c.keep.ensures.kept at took)
