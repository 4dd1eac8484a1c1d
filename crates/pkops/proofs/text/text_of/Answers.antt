-- Text that was decoded is the one named; where none was, the instruction names none.
use Rattle.std.specs.Prelude.{string_bytes}
use Rattle.std.proofs.lemmas.Result.{IfOk-weaker}
use Rattle.pkops.specs.Inst.{instruction_of}
use Rattle.pkops.proofs.Instructions.TextNamed.{answered}
use Rattle.pkops.proofs.text.text_of.Goals as goal

pub returns-clause-named : goal.returns-clause-named
returns-clause-named c =
    IfOk-weaker c.decoded.result _ _
    (λ text e. answered (instruction_of c.args.inst.now) string_bytes text e) c.decoded.ensures
