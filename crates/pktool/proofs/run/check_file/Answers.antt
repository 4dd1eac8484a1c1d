-- List and file are what the host has under their names, so the answer is about these.
use Rattle.pktool.proofs.Reported.{checked}
use Rattle.pktool.proofs.run.check_file.Goals as goal

pub returns-in-Ok-check_source : goal.returns-in-Ok-check_source
returns-in-Ok-check_source g c =
    checked (g.H.Host.content c.args.host.now c.args.allow.now)
    (g.H.Host.content c.args.host.now c.args.file.now) _ _ c.in_ok-list.list
    c.args.words.now.old c.args.words.now.pickles c.args.words.now.bill
    (g.O.Write.contents c.args.out.now)
    (g.O.Write.contents c.check_source.new.out) c.in-Ok-check_source.outcome c.in_ok-list.ensures
    c.in-Ok.ensures.left c.in-Ok.ensures.failures c.in-Ok-check_source.ensures
