-- The memo number is said by the argument, wherever that lies, and lies behind the code.
use Rattle.std.proofs.Common.{◌≡◌, ◌∙◌, ap, refl, subst, sym}
use Rattle.pkops.specs.Behind.{argument_in}
use Rattle.pkops.specs.Contents.{IsGood}
use Rattle.pkops.specs.Operands.{memo_entry, number_said}
use Rattle.pkops.specs.Spelling.{instruction}
use Rattle.pkops.proofs.Instructions.Good.{had_good}
use Rattle.pkops.proofs.Instructions.BehindCode.{form_held}
use Rattle.pkops.proofs.inst.Inst.memo_number.Goals as goal

pub memo_number_in-requires-clause-good : goal.memo_number_in-requires-clause-good
memo_number_in-requires-clause-good c =
    subst (λ x. IsGood (instruction c.args.self.now.op (argument_in c.args.self.now.op x)))
    c.in-Made.is (had_good _ c.args.self.now.good)

pub memo_number_behind-requires-clause-good : goal.memo_number_behind-requires-clause-good
memo_number_behind-requires-clause-good c =
    let h = form_held c.args.self.now.op c.args.self.now.form c.in-Spelled.field-0
    c.in-Spelled.bytes c.in-Spelled.is (had_good _ c.args.self.now.good) c.args.self.now.spelled
    c.args.self.now.split in
    (c.in-Spelled.field-0, (h.limit, h.arg, h.lies, h.good))

pub returns-in-Spelled : goal.returns-in-Spelled
returns-in-Spelled c =
    let h = form_held c.args.self.now.op c.args.self.now.form c.in-Spelled.field-0
    c.in-Spelled.bytes c.in-Spelled.is (had_good _ c.args.self.now.good) c.args.self.now.spelled
    c.args.self.now.split in
    let said : memo_entry
    (instruction c.args.self.now.op (argument_in c.args.self.now.op c.args.self.now.form))
    ≡ number_said (argument_in c.args.self.now.op c.args.self.now.form) =
    rw (sym c.if-not-names_memo_entry.ensures) refl in
    sym (said ∙ ap number_said h.is ∙ c.memo_number_behind.ensures c.in-Spelled.field-0 h.limit
    h.arg h.lies)
