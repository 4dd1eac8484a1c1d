-- The last slot shows the object on top, or by a mark that none is.
use Rattle.std.proofs.Common.{arith}
use Rattle.pkjson.proofs.Entries.{top_mark, top_object}
use Rattle.pkjson.proofs.slots.top.Goals as goal

pub returns-in-Mark : goal.returns-in-Mark
returns-in-Mark c = (_, top_mark c.args.slots.now (omega arith) _ c.in-Mark.is)

pub returns-in-Object : goal.returns-in-Object
returns-in-Object c = top_object c.args.slots.now (omega arith) _ c.in-Object.number c.in-Object.is
