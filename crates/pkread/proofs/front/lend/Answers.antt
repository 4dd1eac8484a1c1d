-- The bytes up to the length found spell the instruction, and are lent as such.
use Rattle.pkread.proofs.Calls.AtHand.{is_lent}
use Rattle.pkread.proofs.front.lend.Goals as goal

pub returns : goal.returns
returns c =
    let f = c.in-Some.ensures in
    is_lent c.args.limits.now c.in-Some.front.split c.in-Some.front.length c.in-Some.front.op
    c.args.bytes.now _ f (c.spelled.ensures _ _ f.found.lies)
