-- The text of the settled result is that of the pickle's value, and so is a refusal of it.
use Rattle.pkjson.proofs.Runs.Answered.{result_within, result_closed, text_answered}
use Rattle.pkjson.proofs.Runs.Answered.{refusal_answered}
use Rattle.pkjson.proofs.exporting.export_text.Goals as goal

pub settled_text-requires-clause-within : goal.settled_text-requires-clause-within
settled_text-requires-clause-within c = rw c.deref.ensures.value
    (result_within c.args.limits.now c.args.bytes.now c.in_ok-objects.objects.items
    c.in_ok-objects.place c.in_ok-objects.ensures.ok)

pub settled_text-requires-clause-closed : goal.settled_text-requires-clause-closed
settled_text-requires-clause-closed c = rw c.deref.ensures.value
    (result_closed c.args.limits.now c.args.bytes.now c.in_ok-objects.objects.items
    c.in_ok-objects.place c.in_ok-objects.ensures.ok)

pub returns-clause-text : goal.returns-clause-text
returns-clause-text c = text_answered c.args.limits.now c.args.bytes.now
    c.in_ok-objects.objects.items c.in_ok-objects.place c.in_ok-objects.ensures.ok
    c.deref.result.now c.deref.ensures.value c.settled_text.result c.settled_text.ensures.ok

pub returns-clause-error : goal.returns-clause-error
returns-clause-error c = refusal_answered c.args.limits.now c.args.bytes.now
    c.in_ok-objects.objects.items c.in_ok-objects.place c.in_ok-objects.ensures.ok
    c.deref.result.now c.deref.ensures.value c.settled_text.result c.settled_text.ensures.err
