-- The text is appended to what the writer had, and a refusal appends nothing.
use Rattle.pkjson.proofs.Runs.Answered.{refusal_told, text_appended}
use Rattle.pkjson.proofs.exporting.export_to.Goals as goal

pub returns-in-Ok-clause-text : goal.returns-in-Ok-clause-text
returns-in-Ok-clause-text g c = text_appended c.args.limits.now c.args.bytes.now
    c.in-Ok.objects.items c.in-Ok.place c.in-Ok.ensures.ok c.deref.result.now
    c.deref.ensures.value (g.W.Write.contents c.args.out.now)
    (g.W.Write.contents c.settled_to.new.out) c.settled_to.result c.settled_to.ensures

pub returns-in-Ok-clause-error : goal.returns-in-Ok-clause-error
returns-in-Ok-clause-error g c = refusal_told c.args.limits.now c.args.bytes.now
    c.in-Ok.objects.items c.in-Ok.place c.in-Ok.ensures.ok c.deref.result.now
    c.deref.ensures.value (g.W.Write.contents c.args.out.now)
    (g.W.Write.contents c.settled_to.new.out) c.settled_to.result c.settled_to.ensures
