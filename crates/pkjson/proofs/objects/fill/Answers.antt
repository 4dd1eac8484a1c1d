-- The receiver gets the numbers of the slots above it, and no other object changes.
use Rattle.std.proofs.Common.{◌∙◌, ap, drop, ◌+◌}
use Rattle.pkjson.proofs.Entries.{kept_set, all_after}
use Rattle.pkjson.specs.Private.Seen.{numbers_of, kept_of}
use Rattle.pkjson.specs.Private.Arena.{more_given}
use Rattle.pkjson.proofs.objects.fill.Goals as goal

pub returns-clause-objects : goal.returns-clause-objects
returns-clause-objects c =
    kept_set c.args.objects.now.items c.args.receiver _ c.receive.new.object
    (numbers_of (drop (c.args.place + 1) c.args.stack.now.items)) c.requires.within
    (c.in_ok-receive.ensures
    ∙ ap (λ l. more_given l (kept_of c.index_mut.result.now))
    (ap numbers_of (all_after c.deref.result.now (c.args.place + 1))
    ∙ ap (λ l. numbers_of (drop (c.args.place + 1) l)) c.deref.ensures.value)
    ∙ ap (λ o. more_given (numbers_of (drop (c.args.place + 1) c.args.stack.now.items)) (kept_of o))
    c.index_mut.ensures.value)
