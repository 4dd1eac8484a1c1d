-- Replayed objects are closed, so the result has a value within the limits or a reason not to.
use Rattle.pkjson.proofs.Runs.Answered.{result_within, result_closed, value_answered}
use Rattle.pkjson.proofs.Runs.Answered.{refusal_answered}
use Rattle.pkjson.proofs.exporting.export.Goals as goal

pub settled_value-requires-clause-within : goal.settled_value-requires-clause-within
settled_value-requires-clause-within c = rw c.deref.ensures.value
    (result_within c.args.limits.now c.args.bytes.now c.in_ok-objects.objects.items
    c.in_ok-objects.place c.in_ok-objects.ensures.ok)

pub settled_value-requires-clause-closed : goal.settled_value-requires-clause-closed
settled_value-requires-clause-closed c = rw c.deref.ensures.value
    (result_closed c.args.limits.now c.args.bytes.now c.in_ok-objects.objects.items
    c.in_ok-objects.place c.in_ok-objects.ensures.ok)

pub returns-clause-value : goal.returns-clause-value
returns-clause-value c = value_answered c.args.limits.now c.args.bytes.now
    c.in_ok-objects.objects.items c.in_ok-objects.place c.in_ok-objects.ensures.ok
    c.deref.result.now c.deref.ensures.value c.settled_value.result c.settled_value.ensures.ok

pub returns-clause-error : goal.returns-clause-error
returns-clause-error c = refusal_answered c.args.limits.now c.args.bytes.now
    c.in_ok-objects.objects.items c.in_ok-objects.place c.in_ok-objects.ensures.ok
    c.deref.result.now c.deref.ensures.value c.settled_value.result c.settled_value.ensures.err
