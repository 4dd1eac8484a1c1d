-- The bytes of a spelled instruction hold the argument that it has, behind its code.
use Rattle.std.proofs.Common.{◌∙◌, sym}
use Rattle.pkops.proofs.Instructions.Good.{had_good}
use Rattle.pkops.proofs.Instructions.BehindCode.{form_held, form_lies}
use Rattle.pkops.proofs.inst.Inst.arg.Goals as goal

pub returns-in-Made-clause-good : goal.returns-in-Made-clause-good
returns-in-Made-clause-good c = had_good _ c.args.self.now.good

pub returns-in-Spelled-clause-good : goal.returns-in-Spelled-clause-good
returns-in-Spelled-clause-good c = had_good _ c.args.self.now.good

pub argument_lent-requires : goal.argument_lent-requires
argument_lent-requires c =
    form_lies c.args.self.now.op c.args.self.now.form c.in-Spelled.split c.in-Spelled.bytes
    c.in-Spelled.is (had_good _ c.args.self.now.good) c.args.self.now.spelled
    c.args.self.now.split

pub returns-in-Spelled-clause-arg : goal.returns-in-Spelled-clause-arg
returns-in-Spelled-clause-arg c =
    let h = form_held c.args.self.now.op c.args.self.now.form c.in-Spelled.split c.in-Spelled.bytes
    c.in-Spelled.is (had_good _ c.args.self.now.good) c.args.self.now.spelled
    c.args.self.now.split in
    c.argument_lent.ensures h.limit h.arg h.lies ∙ sym h.is
