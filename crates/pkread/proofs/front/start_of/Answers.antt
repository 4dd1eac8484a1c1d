-- By computing the table: each opcode in it has the code at whose place it stands.
use Rattle.std.proofs.Common.{arith, refl}
use Rattle.pkread.proofs.Bytes.Starts.{is_of}
use Rattle.pkread.proofs.front.start_of.Goals as goal

pub returns-clause-code : goal.returns-clause-code
returns-clause-code c = is_of _ _ _ refl c.from.ensures (omega arith)
