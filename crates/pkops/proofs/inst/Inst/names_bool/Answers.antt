-- A spelled INT makes a bool exactly if the line behind its code is one of the two.
use Rattle.std.proofs.Common.{◌∙◌, ap, subst, sym}
use Rattle.pkops.specs.declared.op.Op.TheVariants as op
use Rattle.pkops.specs.Behind.{argument_in}
use Rattle.pkops.specs.KnownLayout.{Lies}
use Rattle.pkops.specs.Operands.{names_bool_by}
use Rattle.pkops.proofs.Instructions.Good.{had_good}
use Rattle.pkops.proofs.Instructions.BehindCode.{form_held}
use Rattle.pkops.proofs.inst.Inst.names_bool.Goals as goal

pub is_bool_behind-requires : goal.is_bool_behind-requires
is_bool_behind-requires c =
    let h = form_held c.args.self.now.op c.args.self.now.form c.in-Spelled.field-0
    c.in-Spelled.bytes c.in-Spelled.is (had_good _ c.args.self.now.good) c.args.self.now.spelled
    c.args.self.now.split in
    let lies =
    subst (λ o. Lies h.limit o h.arg c.in-Spelled.field-0 c.in-Spelled.bytes.now)
    c.if-not-is_int.ensures h.lies in
    (c.in-Spelled.field-0, (h.limit, h.arg, lies))

pub returns-in-Spelled : goal.returns-in-Spelled
returns-in-Spelled c =
    let h = form_held c.args.self.now.op c.args.self.now.form c.in-Spelled.field-0
    c.in-Spelled.bytes c.in-Spelled.is (had_good _ c.args.self.now.good) c.args.self.now.spelled
    c.args.self.now.split in
    c.is_bool_behind.ensures c.in-Spelled.field-0 h.limit h.arg
    (subst (λ o. Lies h.limit o h.arg c.in-Spelled.field-0 c.in-Spelled.bytes.now)
    c.if-not-is_int.ensures h.lies)
    ∙ ap (names_bool_by op.Int) (sym h.is)
    ∙ ap (λ o. names_bool_by o (argument_in c.args.self.now.op c.args.self.now.form))
    (sym c.if-not-is_int.ensures)
