-- A seek goes no further than wanted, whatever bytes the file has there.
use Rattle.std.proofs.Common.{arith}
use Rattle.pktool.proofs.Passed.{unknown_passed}
use Rattle.pktool.proofs.passing.FilePassOver.pass_over.Goals as goal

pub returns-in-Ok-seek : goal.returns-in-Ok-seek
returns-in-Ok-seek c =
    let least = c.min-count.ensures in
    unknown_passed c.args.wanted _ _ (omega (arith, least))
