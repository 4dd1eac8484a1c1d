-- Cutting off the last slot removes the topmost entry.
use Rattle.std.proofs.Common.{◌≡◌, arith, length}
use Rattle.pkjson.proofs.Entries.{popped_last}
use Rattle.pkjson.specs.Private.Seen.{shape_seen}
use Rattle.pkjson.proofs.moves.pop.Goals as goal

pub returns-clause-ok : goal.returns-clause-ok
returns-clause-ok c =
    let e : c.len-count.result ≡ length c.args.stack.now.items = omega arith in
    rw (c.truncate.ensures.items, e)
    (popped_last c.args.stack.now.items (omega arith)
    (shape_seen c.args.stack.now.items c.args.memo.now))
