-- A byte that didn't come is refused for the reason why, unless the source is at its end.
use Rattle.pkread.proofs.Calls.Again.{no_byte}
use Rattle.pkread.proofs.state.ask.Goals as goal

pub returns-in_default-clause-err : goal.returns-in_default-clause-err
returns-in_default-clause-err g c =
    no_byte _ _ c.args.gathering.now.taken c.in-Err.reason c.in_default.not-Truncated
    c.in-Err.ensures.err
