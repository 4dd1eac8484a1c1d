-- A source that reveals no bytes may pass over any number up to that wanted.
use Rattle.std.proofs.Common.{arith}
use Rattle.pkrows.proofs.Passed.{unseen_passed}
use Rattle.pkrows.proofs.giving.FilledSource.pass.Goals as goal

pub returns-clause-bytes : goal.returns-clause-bytes
returns-clause-bytes c =
    let least = c.min-count.ensures in
    unseen_passed c.args.wanted _ (omega (arith, least))
