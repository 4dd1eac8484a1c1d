-- Only good instructions can be made, so each one that there is is good.
use Rattle.pkops.proofs.Instructions.Good.{had_good}
use Rattle.pkops.proofs.inst.Inst.op.Goals as goal

pub returns-clause-good : goal.returns-clause-good
returns-clause-good c = had_good _ c.args.self.now.good
