-- The indent of the marks counted so far is written.
use Rattle.std.specs.Io.KnownBytes.{Appends}
use Rattle.pkprint.specs.Listing.{indent}
use Rattle.pkprint.proofs.printing.listing.write_indent.Given as goal

abbrev pub invariant-loop-mark : goal.invariant-loop-mark
invariant-loop-mark g l = Appends (g.W.Write.contents l.initial.out) (g.W.Write.contents l.out)
    (indent l._mark)
