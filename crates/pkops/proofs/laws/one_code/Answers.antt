-- Codes tell opcodes apart.
use Rattle.pkops.proofs.OneOfEach.OneCode.{one_code}
use Rattle.pkops.proofs.laws.one_code.Goals as goal

pub returns : goal.returns
returns c = one_code
