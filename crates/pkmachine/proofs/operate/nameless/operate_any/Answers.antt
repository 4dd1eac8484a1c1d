-- Each arm names its opcode, so it has the effect that it would have by the table.
use Rattle.pkmachine.proofs.operate.nameless.operate_any.Goals as goal

pub returns-in-Append : goal.returns-in-Append
returns-in-Append g c = rw (c.in-Append.is) c.operate.ensures

pub returns-in-Appends : goal.returns-in-Appends
returns-in-Appends g c = rw (c.in-Appends.is) c.operate-in-Appends.ensures

pub returns-in-SetItem : goal.returns-in-SetItem
returns-in-SetItem g c = rw (c.in-SetItem.is) c.operate-in-SetItem.ensures

pub returns-in-SetItems : goal.returns-in-SetItems
returns-in-SetItems g c = rw (c.in-SetItems.is) c.operate-in-SetItems.ensures

pub returns-in-Tuple : goal.returns-in-Tuple
returns-in-Tuple g c = rw (c.in-Tuple.is) c.operate-in-Tuple.ensures

pub returns-in-Build : goal.returns-in-Build
returns-in-Build g c = rw (c.in-Build.is) c.operate-in-Build.ensures
