-- A minus before digits that don't begin with a zero makes a line of INT.
use Rattle.std.proofs.Common.{arith}
use Rattle.pkread.proofs.Bytes.FrequentLines.{negative_line}
use Rattle.pkread.proofs.frequent_lines.negative_line_length.Goals as goal

pub returns : goal.returns
returns c some =
    let room = c.requires.room in
    negative_line c.rules_are_computed.ensures _ c.args.bytes.now (omega (arith, room))
    c.requires.minus c.if-bytes-eq48.false c.if-digits-eq0.false
    (c.number_length-digits.ensures c.if-digits-eq0.false)
