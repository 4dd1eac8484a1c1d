-- A copy with the same opcode and argument is the same instruction.
use Rattle.std.proofs.Common.{◌≡◌, ◌∙◌, sym, ap₂}
use Rattle.std.proofs.lemmas.Result.{err_from_is_err_and}
use Rattle.pkops.specs.Inst.{instruction_of}
use Rattle.pkops.specs.Spelling.{instruction}
use Rattle.pkmachine.proofs.stepping.read_copy.Goals as goal

pub returns-in_err-read_old_string : goal.returns-in_err-read_old_string
returns-in_err-read_old_string g c =
    let q = err_from_is_err_and c.from_residual.result c.from_residual.ensures.1 in
    let same : instruction_of c.known-copy.result ≡ instruction_of c.args.inst.now =
    c.known-copy.ensures ∙ ap₂ instruction c.op.ensures.op c.arg.ensures.arg in
    rw (q.1, q.2, sym same) c.in_err-read_old_string.ensures

pub returns : goal.returns
returns g c =
    let same : instruction_of c.known-copy.result ≡ instruction_of c.args.inst.now =
    c.known-copy.ensures ∙ ap₂ instruction c.op.ensures.op c.arg.ensures.arg in
    rw (sym same) c.in_ok-read_old_string.ensures
