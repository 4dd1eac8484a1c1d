-- Digits that end at a line feed, without a needless zero in front, are a number.
use Rattle.std.proofs.Common.{refl, sym}
use Rattle.pkread.proofs.Bytes.FrequentLines.{number_front}
use Rattle.pkread.proofs.frequent_lines.number_length.Goals as goal

pub returns : goal.returns
returns c some =
    number_front c.in-Some.end c.args.bytes.now (sym c.in-Some.ensures) c.if-bytes-end-ne10.false
    (c.if-begins_with_needless_zero.ensures refl) some
