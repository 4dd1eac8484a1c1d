-- Fewer than ten digits say less than 2^32.
use Rattle.std.proofs.Common.{◌∙◌, sym}
use Rattle.std.proofs.lemmas.Bool.{lt-ltb}
use Rattle.pkops.proofs.ContentsRules.Numerals.{few_digits}
use Rattle.pkops.proofs.contents.numeral.is_small.Goals as goal

pub returns-then-digits-lt10 : goal.returns-then-digits-lt10
returns-then-digits-lt10 c =
    lt-ltb _ _ c.if-digits-lt10.true
    ∙ sym (lt-ltb _ _ (few_digits c.args.digits.now c.requires c.if-digits-lt10.true))
