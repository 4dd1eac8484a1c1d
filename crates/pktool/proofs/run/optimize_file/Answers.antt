-- The bytes read are the content of the file, so the form is that of its pickle.
use Rattle.std.proofs.Common.{subst, sym}
use Rattle.pktool.specs.Answers.{HasContent}
use Rattle.pktool.proofs.Reported.{optimized}
use Rattle.pktool.proofs.run.optimize_file.Goals as goal

pub returns-in-Ok-optimize_to : goal.returns-in-Ok-optimize_to
returns-in-Ok-optimize_to g c =
    let content = g.H.Host.content c.args.host.now c.args.file.now in
    let items = c.in-Some.bytes.items in
    let left = (let t = rw c.in-Some.is at c.in_ok-bytes.ensures in t) in
    let has = subst (λ l. HasContent l items) c.in-Ok.ensures left in
    let puts = g.H.Host.puts in
    optimized content c.as_slice.result.now (λ old new. puts old.host.now old.path.now)
    (puts c.args.host.now c.args.to.now) c.new-place.result c.optimize_to.new.place
    (g.O.Write.contents c.args.out.now) (g.O.Write.contents c.optimize_to.new.out)
    c.in-Ok-optimize_to.outcome
    (λ form h. subst (λ host. puts host c.args.to.now form) c.new-place.ensures.host
    (subst (λ path. puts c.new-place.result.host.now path form) c.new-place.ensures.path h))
    (subst (λ l. HasContent content l) (sym c.as_slice.ensures.value) has)
    c.in-Ok-optimize_to.ensures.ends
