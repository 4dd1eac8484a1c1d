-- No other opcode has the code.
use Rattle.std.proofs.Common.{◌∙◌, ap, sym}
use Rattle.pkops.specs.Spelling.{layout_at}
use Rattle.pkguard.specs.Layouts.{layout_number}
use Rattle.pkguard.proofs.layouts.pkguard_layout.Goals as goal

pub returns-in-Some-clause-known : goal.returns-in-Some-clause-known
returns-in-Some-clause-known c = λ op is.
    let same = c.one_code.ensures _ op (c.in-Some.ensures.found ∙ sym is) in
    c.layout_number.ensures ∙ ap layout_number (c.layout_of_op.ensures ∙ ap layout_at same)
