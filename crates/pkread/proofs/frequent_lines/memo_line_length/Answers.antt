-- Digits of a number up to a line feed, behind the code, are the line of a memo number.
use Rattle.std.proofs.Common.{arith}
use Rattle.pkread.proofs.Bytes.FrequentLines.{memo_line}
use Rattle.pkread.proofs.frequent_lines.memo_line_length.Goals as goal

pub returns : goal.returns
returns c some =
    let room = c.if-bytes-le-NUMBER.false in
    memo_line c.rules_are_computed.ensures _ c.args.bytes.now (omega (arith, room))
    (c.number_length-digits.ensures c.if-digits-eq0.false)
