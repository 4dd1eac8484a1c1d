-- Each turn copies one entry, and the names written for earlier copies stay where they are.
use Rattle.std.proofs.Common.{length}
use Rattle.pkimport.specs.declared.import_table.ListedImport.TheVariants as entry
use Rattle.pkimport.proofs.Copies.{copied_more, entry_at, grows_more}
use Rattle.pkimport.proofs.import_table.copy_entries.Goals as goal

pub copy_entry-requires-clause-entry : goal.copy_entry-requires-clause-entry
copy_entry-requires-clause-entry c =
    rw c.entries.invariant.size
    (entry_at (length c.args.texts.now) (length c.args.names.now) c.entries.entry-index
    c.args.entries.now entry.Unknown c.requires c.entries-test.true)

pub returns-in_default-clause-grows : goal.returns-in_default-clause-grows
returns-in_default-clause-grows c = grows_more c.args.written.now c.entries.written
    c.copy_entry.new.written c.entries.invariant.grows c.copy_entry.ensures.kept.grows

pub entries-preserved : goal.entries-preserved
entries-preserved c =
    rw c.in_ok-push.ensures.items (copied_more c.args.texts.now c.args.names.now c.args.entries.now
    c.args.written.now c.entries.written c.copy_entry.new.written c.entries.copies.items
    c.copy_entry.new.copies.items c.entries.copied.items c.entries.entry-index entry.Unknown
    c.in-Ok.copy c.entries.invariant c.entries-test.true c.copy_entry.ensures.kept
    c.in-Ok.ensures.ok)
