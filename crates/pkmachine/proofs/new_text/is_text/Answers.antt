-- A UNICODE line without escapes is the text that it names.
use Rattle.std.proofs.Common.{[], sym, ap, ◌∙◌}
use Rattle.std.specs.Prelude.{encode_utf8_all, unwrap_or}
use Rattle.pkops.specs.OldBytes.{old_bytes}
use Rattle.pkops.specs.Spelling.{Line, instruction}
use Rattle.pkops.specs.declared.op.Op.TheVariants as op
use Rattle.pkmachine.proofs.new_text.is_text.Goals as goal

pub returns-in-Unicode-clause-text : goal.returns-in-Unicode-clause-text
returns-in-Unicode-clause-text c = λ yes.
    let i = instruction op.Unicode (Line c.args.line.now) in
    let plain = sym c.spells_itself.ensures ∙ yes in
    let named = (c.text_is_named.ensures i c.args.line.now).0
    (c.plain_line_is_text.ensures.text c.args.line.now plain) in
    rw c.in-Unicode.is
    (ap (λ found. unwrap_or found (encode_utf8_all (unwrap_or (old_bytes i) []))) named)
