-- The number pushed is that of the text appended to the table; all else is as it was.
use Rattle.std.proofs.Common.{◌∙◌, ◌∷◌, ap}
use Rattle.pkstack.specs.Shape.{Item}
use Rattle.pkmachine.specs.declared.value.Value.TheVariants as value
use Rattle.pkmachine.proofs.PushedTexts.{text_added, text_pushed}
use Rattle.pkmachine.proofs.new_text.name_text.Goals as goal

pub returns : goal.returns
returns g c =
    let pushed = c.if-not-push_within_capacity.false in
    text_pushed c.args.limits.now.stack c.args.text.now c.args.item _ c.requires.sees _ _
    (c.push_within_capacity.ensures.pushed pushed
    ∙ ap (λ v. Item (record { value = v; item = c.args.item }) ∷ c.args.stack.now)
    (c.in-Some.ensures ∙ ap value.Text c.texts.ensures))
    (c.push_within_capacity.ensures.room pushed)
    (c.add_text_within_capacity.ensures.added c.if-not-add_text_within_capacity.false)

pub returns-then-not-add_text_within_capacity : goal.returns-then-not-add_text_within_capacity
returns-then-not-add_text_within_capacity g c =
    let pushed = c.if-not-push_within_capacity.false in
    text_added c.args.limits.now.stack c.args.text.now c.args.item _ c.requires.sees
    c.add_pushed_text.result c.push_within_capacity.new.self c.add_text_within_capacity.new.self _ _
    (c.push_within_capacity.ensures.pushed pushed
    ∙ ap (λ v. Item (record { value = v; item = c.args.item }) ∷ c.args.stack.now)
    (c.in-Some.ensures ∙ ap value.Text c.texts.ensures))
    (c.push_within_capacity.ensures.room pushed)
    (c.add_text_within_capacity.ensures.kept c.if-not-add_text_within_capacity.true)
    c.len-place.ensures c.add_pushed_text.ensures.pushed c.add_pushed_text.ensures.added
    c.add_pushed_text.ensures.err
