-- Each turn appends the line of one more import.
use Rattle.pkimport.specs.Import.{import_shown}
use Rattle.pkprint.specs.Imports.{import_line}
use Rattle.pkcheck.specs.Appended.{appends_none, appends_then}
use Rattle.pkprint.proofs.Lines.{flat_map_next}
use Rattle.pkprint.proofs.printing.imports.write_each.Goals as goal

pub loop-number-init : goal.loop-number-init
loop-number-init g c = appends_none (g.W.Write.contents c.args.out.now)

pub loop-number-preserved : goal.loop-number-preserved
loop-number-preserved g c =
    let before = c.loop-number.invariant in
    let line = c.in_ok-write_import.ensures in
    rw (flat_map_next import_line c.args.imports.now c.loop-number.number
    (import_shown c.in-Some.import) c.in-Some.ensures) (search appends_then)
