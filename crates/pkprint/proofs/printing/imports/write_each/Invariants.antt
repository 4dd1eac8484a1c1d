-- The lines of the imports passed are written, in order.
use Rattle.std.proofs.Common.{take}
use Rattle.std.specs.List.{flat_map}
use Rattle.std.specs.Io.KnownBytes.{Appends}
use Rattle.pkprint.specs.Imports.{import_line}
use Rattle.pkprint.proofs.printing.imports.write_each.Given as goal

abbrev pub invariant-loop-number : goal.invariant-loop-number
invariant-loop-number g l =
    Appends (g.W.Write.contents l.initial.out) (g.W.Write.contents l.out)
    (flat_map import_line (take l.number l.imports))
