-- Both rows have the same pickles, of which each lists the same imports.
use Rattle.pkcheck.proofs.Wholes.SameImportsOfRow.{same_imports_of_row}
use Rattle.pkcheck.proofs.laws.same_imports_of_row.Goals as goal

pub returns : goal.returns
returns c = same_imports_of_row c.one_sequence.ensures.one
