-- The source gives the content of the file, so the line is the export of that content.
use Rattle.pktool.proofs.Exported.{exported_text}
use Rattle.pktool.proofs.run.json_file.Goals as goal

pub returns-in-Ok-json_to : goal.returns-in-Ok-json_to
returns-in-Ok-json_to g c =
    exported_text (g.H.Host.content c.args.host.now c.args.file.now) _ _ _
    (g.O.Write.contents c.args.out.now) (g.O.Write.contents c.json_to.new.out)
    c.in-Ok-json_to.outcome c.exported.result c.in-Ok.ensures.left c.in-Ok.ensures.failures
    c.in-Ok-json_to.ensures c.exported.ensures
