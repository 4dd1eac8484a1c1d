-- All objects are keys, so what the keys weigh more is their weight.
use Rattle.std.proofs.lemmas.Result.{IfOk-weaker}
use Rattle.pkload.proofs.Lights.{keys_frozen, keys_grow}
use Rattle.pkload.specs.Private.Billing.{AreFrozen, HasReplaced}
use Rattle.pkload.proofs.gathering.freeze_items.Goals as goal

pub overflow_sub-held : goal.overflow_sub-held
overflow_sub-held c = keys_grow c.args.tally.now c.count_items.new.tally c.objects.result.now
    c.in_ok-count_items.ensures.ok

pub returns-clause-ok : goal.returns-clause-ok
returns-clause-ok c = IfOk-weaker c.replace_slice.result
    (HasReplaced c.args.stack.now c.replace_slice.new.self c.frozen.result)
    (AreFrozen c.args.stack.now c.replace_slice.new.self c.args.tally.now
    c.count_items.new.tally)
    (λ count h. keys_frozen c.args.stack.now c.replace_slice.new.self c.objects.result.now
    c.args.tally.now c.count_items.new.tally c.frozen.result count c.objects.ensures h
    c.in_ok-count_items.ensures.ok c.frozen.ensures) c.replace_slice.ensures.ok
