-- Settled objects are closed, ordered and as many as there were, and have the same values.
use Rattle.std.proofs.Common.{sym, subst, ◌<◌}
use Rattle.pkjson.specs.Private.Nodes.{nodes_of}
use Rattle.pkjson.specs.Private.Seen.{kept_all}
use Rattle.pkjson.proofs.Runs.Answered.{value_held, refusal_held}
use Rattle.pkjson.proofs.DictKeys.SettledMembers.{kept_length, settled_closed, settled_ordered}
use Rattle.pkjson.proofs.DictKeys.SettledMembers.{settled_size}
use Rattle.pkjson.proofs.exporting.settled_value.Goals as goal

pub value_of-requires-clause-closed : goal.value_of-requires-clause-closed
value_of-requires-clause-closed c = settled_closed
    (kept_all c.args.objects.now) c.in-Ok.nodes c.in-Ok.ensures

pub value_of-requires-clause-ordered : goal.value_of-requires-clause-ordered
value_of-requires-clause-ordered c = settled_ordered
    (kept_all c.args.objects.now) c.in-Ok.nodes c.in-Ok.ensures

pub value_of-requires-clause-place : goal.value_of-requires-clause-place
value_of-requires-clause-place c = subst (λ n. c.args.place < n)
    (sym (settled_size (kept_all c.args.objects.now) c.in-Ok.nodes c.in-Ok.ensures))
    (subst (λ n. c.args.place < n) (sym (kept_length c.args.objects.now)) c.requires.within)

pub returns-clause-ok : goal.returns-clause-ok
returns-clause-ok c = value_held (kept_all c.args.objects.now)
    (nodes_of c.in-Ok.nodes) c.in-Ok.ensures
    c.deepest.result c.most.result c.args.limits.now.depth c.args.limits.now.values c.args.place
    c.deepest.ensures.value c.most.ensures.value c.value_of.result c.value_of.ensures.ok

pub returns-clause-err : goal.returns-clause-err
returns-clause-err c = refusal_held (kept_all c.args.objects.now)
    (nodes_of c.in-Ok.nodes) c.in-Ok.ensures
    c.deepest.result c.most.result c.args.limits.now.depth c.args.limits.now.values c.args.place
    c.deepest.ensures.value c.most.ensures.value c.value_of.result c.value_of.ensures.err
