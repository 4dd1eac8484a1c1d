-- A line that spells itself names the very bytes that it has.
use Rattle.std.proofs.Common.{sym, ◌∙◌}
use Rattle.std.proofs.lemmas.Result.{IfOk-weaker}
use Rattle.pkops.proofs.ContentsRules.EscapesPlain.{plain_text}
use Rattle.pkops.proofs.contents.escapes.read_text.Goals as goal

pub returns-then-spells_itself : goal.returns-then-spells_itself
returns-then-spells_itself c =
    IfOk-weaker c.read_plain.result _ _
    (λ text e. e ∙ sym (plain_text c.args.line.now (sym c.if-spells_itself.ensures)))
    c.read_plain.ensures
