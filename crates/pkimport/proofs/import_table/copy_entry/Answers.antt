-- Copying a spelled pair writes two names and changes no note of a copied text.
use Rattle.std.proofs.Common.{refl}
use Rattle.pkimport.proofs.Copies.{copies_grown}
use Rattle.pkimport.proofs.import_table.copy_entry.Goals as goal

pub returns-in-Written-clause-kept : goal.returns-in-Written-clause-kept
returns-in-Written-clause-kept c = record {
  copies = copies_grown c.args.written.now c.write_pair.new.written c.write_pair.ensures.grows
      c.args.copies.now.items c.args.texts.now c.requires.copies;
  count = refl;
  grows = c.write_pair.ensures.grows;
}
