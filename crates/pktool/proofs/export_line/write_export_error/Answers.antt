-- A reason without an offset is written as one fixed line.
use Rattle.pktool.proofs.export_line.write_export_error.Goals as goal

pub returns-in-TooDeep : goal.returns-in-TooDeep
returns-in-TooDeep g c = rw (c.in-TooDeep.is) c.write_all.ensures.bytes

pub returns-in-TooMany : goal.returns-in-TooMany
returns-in-TooMany g c = rw (c.in-TooMany.is) c.write_all-in-TooMany.ensures.bytes

pub returns-in-OutOfMemory : goal.returns-in-OutOfMemory
returns-in-OutOfMemory g c = rw (c.in-OutOfMemory.is) c.write_all-in-OutOfMemory.ensures.bytes
