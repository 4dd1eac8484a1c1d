-- The computed test of contents decides the rule, either way.
use Rattle.pkops.specs.Spelling.{shown_arg}
use Rattle.pkops.proofs.ContentsRules.Decided.{decided}
use Rattle.pkops.proofs.contents.keeps.Goals as goal

pub returns : goal.returns
returns c = rw c.passes.ensures (decided c.args.rule (shown_arg c.args.arg))
