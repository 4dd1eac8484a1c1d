-- Settled objects hold what the objects kept hold, so the text written is the text of these.
use Rattle.std.proofs.Common.{sym, subst, ◌<◌}
use Rattle.pkjson.specs.Private.Nodes.{nodes_of}
use Rattle.pkjson.specs.Private.Seen.{kept_all}
use Rattle.pkjson.proofs.Runs.Answered.{text_held, refusal_held}
use Rattle.pkjson.proofs.DictKeys.SettledMembers.{kept_length, settled_closed, settled_size}
use Rattle.pkjson.proofs.exporting.settled_text.Goals as goal

pub written-requires-clause-closed : goal.written-requires-clause-closed
written-requires-clause-closed c = settled_closed (kept_all c.args.objects.now) c.in-Ok.nodes
    c.in-Ok.ensures

pub written-requires-clause-place : goal.written-requires-clause-place
written-requires-clause-place c = subst (λ n. c.args.place < n)
    (sym (settled_size (kept_all c.args.objects.now) c.in-Ok.nodes c.in-Ok.ensures))
    (subst (λ n. c.args.place < n) (sym (kept_length c.args.objects.now)) c.requires.within)

pub returns-clause-ok : goal.returns-clause-ok
returns-clause-ok c = text_held (kept_all c.args.objects.now)
    (nodes_of c.in-Ok.nodes) c.in-Ok.ensures
    c.deepest.result c.most.result c.args.limits.now.depth c.args.limits.now.values c.args.place
    c.deepest.ensures.value c.most.ensures.value c.written.result c.written.ensures.ok

pub returns-clause-err : goal.returns-clause-err
returns-clause-err c = refusal_held (kept_all c.args.objects.now)
    (nodes_of c.in-Ok.nodes) c.in-Ok.ensures
    c.deepest.result c.most.result c.args.limits.now.depth c.args.limits.now.values c.args.place
    c.deepest.ensures.value c.most.ensures.value c.written.result c.written.ensures.err
