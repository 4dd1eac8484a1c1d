-- Both yeses read the same instructions, of which each makes one import.
use Rattle.pkcheck.proofs.Wholes.SameImports.{same_imports}
use Rattle.pkcheck.proofs.laws.same_imports.Goals as goal

pub returns : goal.returns
returns c = same_imports c.one_sequence.ensures.one
