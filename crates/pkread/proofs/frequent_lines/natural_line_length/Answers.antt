-- A number without leading zeros, up to a line feed, is a line of INT.
use Rattle.std.proofs.Common.{arith}
use Rattle.pkread.proofs.Bytes.FrequentLines.{natural_line}
use Rattle.pkread.proofs.frequent_lines.natural_line_length.Goals as goal

pub returns : goal.returns
returns c some =
    let room = c.requires.room in
    natural_line c.rules_are_computed.ensures _ c.args.bytes.now (omega (arith, room))
    (c.number_length-digits.ensures c.if-digits-eq0.false)
