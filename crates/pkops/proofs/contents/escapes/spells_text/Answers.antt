-- A line that spells itself names a text, whatever a reading byte by byte would say.
use Rattle.std.proofs.Common.{ap, sym, ◌∙◌, is_some}
use Rattle.pkops.proofs.ContentsRules.EscapesPlain.{plain_points}
use Rattle.pkops.proofs.contents.escapes.spells_text.Goals as goal

pub returns-then-spells_itself : goal.returns-then-spells_itself
returns-then-spells_itself c = c.if-spells_itself.true
    ∙ sym (ap is_some (plain_points c.args.line.now (sym c.if-spells_itself.ensures)))
