-- Each turn writes one more import behind those written.
use Rattle.pkimport.specs.Import.{import_shown}
use Rattle.pkguard.specs.Encoding.{encoded}
use Rattle.pkguard.proofs.Pieces.{flat_map_next}
use Rattle.pkguard.proofs.encoding.put_imports.Goals as goal

pub loop-number-preserved : goal.loop-number-preserved
loop-number-preserved c =
    rw (flat_map_next encoded c.args.imports.now c.loop-number.number
    (import_shown c.in-Some.import) c.in-Some.ensures)
    (c.put_import-next.ensures _ c.args.room.now c.loop-number.invariant)
