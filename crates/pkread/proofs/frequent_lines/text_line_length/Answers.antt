-- Plain bytes up to a line feed spell themselves, so they are a line of UNICODE.
use Rattle.std.proofs.Common.{arith, sym}
use Rattle.pkread.proofs.Bytes.FrequentLines.{text_line}
use Rattle.pkread.proofs.frequent_lines.text_line_length.Goals as goal

pub returns : goal.returns
returns c some =
    let most = c.min.ensures in
    text_line c.in-Some.end _ c.args.bytes.now c.requires.some (omega (arith, most))
    (sym c.in-Some.ensures) c.if-line-end-ne10.false
