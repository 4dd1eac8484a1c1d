-- A rule of contents and its test follow from each other.
use Rattle.pkops.proofs.ContentsRules.Decided.{keeps_is, passes_of}
use Rattle.pkops.proofs.laws.rules_are_computed.Goals as goal

pub returns : goal.returns
returns c = λ rule arg. (passes_of rule arg, keeps_is rule arg)
