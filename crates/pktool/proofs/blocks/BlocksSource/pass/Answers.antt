-- The bytes in the block and those passed over behind it are together no more than wanted.
use Rattle.std.proofs.Common.{arith}
use Rattle.pktool.proofs.Passed.{passed_behind}
use Rattle.pktool.proofs.blocks.BlocksSource.pass.Goals as goal

pub returns-clause-bytes : goal.returns-clause-bytes
returns-clause-bytes g c =
    let held = c.len-held.ensures in
    let behind = c.saturating_sub.ensures in
    let many = c.if-saturating_sub-lt-SIZE.false in
    rw (c.clear.ensures.none, c.clear.ensures.count) (passed_behind _
    c.clear.ensures.fit (omega (arith, held, behind, many)) c.pass_over-behind.ensures)
