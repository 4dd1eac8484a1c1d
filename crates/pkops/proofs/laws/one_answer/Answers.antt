-- Whatever a scan may rightly say of some bytes, it may say nothing else.
use Rattle.pkops.proofs.OneOfEach.OneAnswer.{one_answer}
use Rattle.pkops.proofs.laws.one_answer.Goals as goal

pub returns : goal.returns
returns c = one_answer
