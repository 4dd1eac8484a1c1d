-- Cutting the entries cuts the imports that they stand for, and those kept stay well numbered.
use Rattle.std.proofs.Common.{length, sym}
use Rattle.std.proofs.lemmas.List.{take-map}
use Rattle.pkimport.specs.Private.Entries.{entry_asked}
use Rattle.pkimport.proofs.NotedImports.{are_kept}
use Rattle.pkimport.proofs.import_table.ImportTable.keep.Goals as goal

pub invariant_of-self : goal.invariant_of-self
invariant_of-self c = rw c.truncate.ensures.items
    (are_kept (length c.self.inside.texts) (length c.self.inside.written) c.args.count
    c.self.inside.entries.items c.self.invariant)

pub returns : goal.returns
returns c = rw (← c.self.view_is, c.truncate.ensures.items)
    (λ i. record {
      texts = c.self.inside.texts;
      asked =
          sym (take-map (entry_asked c.self.inside.texts c.self.inside.written) c.args.count
          c.self.inside.entries.items) i;
    })
