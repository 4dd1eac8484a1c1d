-- Each mark makes the indent two spaces longer.
use Rattle.pkprint.proofs.Lines.{indent_more}
use Rattle.pkprint.specs.Listing.{indent}
use Rattle.pkcheck.specs.Appended.{appends_none, appends_then}
use Rattle.pkprint.proofs.printing.listing.write_indent.Goals as goal

pub loop-mark-init : goal.loop-mark-init
unfolding indent
loop-mark-init g c = appends_none (g.W.Write.contents c.args.out.now)

pub loop-mark-preserved : goal.loop-mark-preserved
loop-mark-preserved g c =
    let before = c.loop-mark.invariant in
    let mark = c.in_ok-write_all.ensures.bytes in rw indent_more (search appends_then)
