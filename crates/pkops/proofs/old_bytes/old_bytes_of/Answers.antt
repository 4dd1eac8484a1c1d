-- Bytes that were decoded are those of the string; where none were, the instruction has none.
use Rattle.std.proofs.lemmas.Result.{IfOk-weaker}
use Rattle.pkops.specs.Inst.{instruction_of}
use Rattle.pkops.proofs.Instructions.OldBytesNamed.{answered}
use Rattle.pkops.proofs.old_bytes.old_bytes_of.Goals as goal

pub returns-clause-named : goal.returns-clause-named
returns-clause-named c =
    IfOk-weaker c.decoded.result _ _
    (λ bytes e. answered (instruction_of c.args.inst.now) (λ vec. vec.items) bytes e)
    c.decoded.ensures
