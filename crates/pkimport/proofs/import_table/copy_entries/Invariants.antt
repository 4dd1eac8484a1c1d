-- The entries copied so far refer to written names, and ask for what their originals ask for.
use Rattle.pkimport.proofs.Copies.{CopiedSoFar}
use Rattle.pkimport.proofs.import_table.copy_entries.Given as goal

abbrev pub invariant-entries : goal.invariant-entries
invariant-entries l = CopiedSoFar l.texts l.names l.entries l.fn.written l.written l.copies.items
    l.copied.items l.entry-index
