-- An opcode is in front if a length by its layout is.
use Rattle.std.proofs.Common.{◌∙◌, sym, subst}
use Rattle.pkops.specs.declared.Op.{Op}
use Rattle.pkread.specs.Private.Arms.{IsInFront}
use Rattle.pkread.proofs.Bytes.FrontLines.{no_two_lines, two_lines}
use Rattle.pkread.proofs.front.rare_lengths.Goals as goal

pub returns-in-Proto : goal.returns-in-Proto
returns-in-Proto c some =
    subst (λ (x : Op). IsInFront c.args.limits.now x c.proto_length.result c.args.bytes.now)
    (sym c.in-Proto.is) (c.proto_length.ensures c.args.limits.now some)

pub returns-in-Line : goal.returns-in-Line
returns-in-Line c some =
    let lay = sym c.layout_of_op.ensures ∙ c.in-Line.is in
    rw (no_two_lines c.args.op (λ m. rw lay (λ e. cc)))
    (c.line_length.ensures c.args.limits.now some)

pub returns-in-Pair : goal.returns-in-Pair
returns-in-Pair c some =
    let lay = sym c.layout_of_op.ensures ∙ c.in-Pair.is in
    rw (two_lines c.args.op _ lay) (c.pair_lengths.ensures c.args.limits.now some)
