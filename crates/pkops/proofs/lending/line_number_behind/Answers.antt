-- Of a line with one digit, the number is that digit's value.
use Rattle.std.proofs.Common.{◌∙◌}
use Rattle.pkops.proofs.ContentsRules.Numerals.{one_digit}
use Rattle.pkops.proofs.lending.line_number_behind.Goals as goal

pub value_of-requires : goal.value_of-requires
value_of-requires c = (one_digit c.args.bytes.now c.if-bytes-eq3.true c.requires.number).0

pub returns-then-bytes-eq3 : goal.returns-then-bytes-eq3
returns-then-bytes-eq3 c =
    c.value_of.ensures ∙ (one_digit c.args.bytes.now c.if-bytes-eq3.true c.requires.number).1
