-- The number pushed is that of the text appended to the table; all else is as it was.
use Rattle.std.proofs.Common.{◌∙◌, ◌∷◌, ap, refl}
use Rattle.pkstack.specs.Shape.{Item}
use Rattle.pkmachine.specs.declared.value.Value.TheVariants as value
use Rattle.pkmachine.proofs.PushedTexts.{text_added}
use Rattle.pkmachine.proofs.new_text.name_any_text.Goals as goal

pub returns-in-Ok : goal.returns-in-Ok
returns-in-Ok g c =
    text_added c.args.limits.now.stack c.args.text.now c.args.item _ c.requires.sees
    c.add_pushed_text.result c.push.new.self c.args.table.now _ _
    (c.in-Ok.ensures.ok
    ∙ ap (λ v. Item (record { value = v; item = c.args.item }) ∷ c.args.stack.now)
    (c.in-Some.ensures ∙ ap value.Text c.texts.ensures))
    c.in-Ok.ensures.room refl c.len-place.ensures c.add_pushed_text.ensures.pushed
    c.add_pushed_text.ensures.added c.add_pushed_text.ensures.err
