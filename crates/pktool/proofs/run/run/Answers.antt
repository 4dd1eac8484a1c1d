-- A status below 2 comes with a job's answer or a text of help, written behind what was there.
use Rattle.pktool.proofs.Reported.{job_reported, text_reported}
use Rattle.pktool.proofs.run.run.Goals as goal

pub returns-in-Ok-clause-answered : goal.returns-in-Ok-clause-answered
returns-in-Ok-clause-answered g c = λ small.
    job_reported (g.H.Host.content c.args.host.now) (g.H.Host.puts c.args.host.now) _ c.in-Ok.job
    c.done.result _ _ _ _ c.in-Ok.ensures.job c.done.ensures (c.status_of.ensures.stays small)

pub returns-in-Err-clause-answered : goal.returns-in-Err-clause-answered
returns-in-Err-clause-answered g c = λ small.
    text_reported (g.H.Host.content c.args.host.now) (g.H.Host.puts c.args.host.now) _
    c.in-Err.usage c.shown.result _ _ _ _ c.in-Err.ensures.none c.shown.ensures
    (c.status_of-in-Err.ensures.stays small)
