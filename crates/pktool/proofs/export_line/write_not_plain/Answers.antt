-- Offset, name of the opcode and bracket, written in turn, make one line.
use Rattle.std.proofs.Common.{codes}
use Rattle.std.specs.Fmt.{decimal}
use Rattle.pkops.specs.Table.{row_of}
use Rattle.pktool.proofs.Exports.{named_line}
use Rattle.pktool.proofs.export_line.write_not_plain.Goals as goal

pub returns : goal.returns
returns g c = named_line c.write_all.result _ _ _ _ (codes "no at ") (decimal c.args.at)
    (codes ": NotPlain(") (row_of c.args.op).name (codes ")\n") c.in_ok-write.ensures.bytes
    c.in_ok-write_name.ensures c.write_all.ensures.bytes
