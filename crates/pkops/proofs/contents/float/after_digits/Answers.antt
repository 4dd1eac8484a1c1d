-- What follows the digits begins at the first byte that is none, or is empty.
use Rattle.std.proofs.Common.{sym, ◌∙◌}
use Rattle.pkops.proofs.ContentsRules.Floats.{after_end, no_end}
use Rattle.pkops.proofs.contents.float.after_digits.Goals as goal

pub returns-in-Some : goal.returns-in-Some
returns-in-Some c = after_end c.args.text.now c.in-Some.end
    (sym c.end_of_digits.ensures ∙ c.in-Some.is)

pub returns-in-None : goal.returns-in-None
returns-in-None c = no_end c.args.text.now (sym c.end_of_digits.ensures ∙ c.in-None.is)
