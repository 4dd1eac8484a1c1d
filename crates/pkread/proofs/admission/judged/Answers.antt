-- A plain opcode takes any argument and is admitted, so nothing has to be looked at.
use Rattle.pkread.proofs.Bytes.Plain.{fine}
use Rattle.pkread.proofs.admission.judged.Goals as goal

pub returns-then-is_plain-clause-ok : goal.returns-then-is_plain-clause-ok
returns-then-is_plain-clause-ok c = let e = c.is_plain.ensures in
    fine c.args.op c.args.split c.args.bytes.now cc
