-- By computing the table: each code has the opcode that it is the code of, or none.
use Rattle.std.proofs.Common.{refl}
use Rattle.pkops.proofs.OneOfEach.OneCode.{is_of, is_none}
use Rattle.pkops.proofs.codes.op_of_byte.Goals as goal

pub returns-clause-found : goal.returns-clause-found
returns-clause-found c = is_of _ _ _ refl c.from.ensures

pub returns-clause-none : goal.returns-clause-none
returns-clause-none c = is_none _ _ _ refl c.from.ensures
