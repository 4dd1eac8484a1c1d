-- What is answered of settled objects holds of those kept, as both unfold alike.
use Rattle.std.proofs.Common.{sym, subst, ◌<◌}
use Rattle.pkjson.specs.Private.Nodes.{nodes_of}
use Rattle.pkjson.specs.Private.Seen.{kept_all}
use Rattle.pkjson.proofs.Runs.Answered.{answered_held}
use Rattle.pkjson.proofs.DictKeys.SettledMembers.{kept_length, settled_closed, settled_size}
use Rattle.pkjson.proofs.exporting.settled_to.Goals as goal

pub written_to-requires-clause-closed : goal.written_to-requires-clause-closed
written_to-requires-clause-closed g c = settled_closed (kept_all c.args.objects.now) c.in-Ok.nodes
    c.in-Ok.ensures

pub written_to-requires-clause-place : goal.written_to-requires-clause-place
written_to-requires-clause-place g c = subst (λ n. c.args.place < n)
    (sym (settled_size (kept_all c.args.objects.now) c.in-Ok.nodes c.in-Ok.ensures))
    (subst (λ n. c.args.place < n) (sym (kept_length c.args.objects.now)) c.requires.within)

pub returns : goal.returns
returns g c = answered_held (kept_all c.args.objects.now) (nodes_of c.in-Ok.nodes) c.in-Ok.ensures
    c.args.limits.now c.args.place (g.W.Write.contents c.args.out.now)
    (g.W.Write.contents c.written_to.new.out) c.written_to.result c.written_to.ensures
