-- The copies so far, followed by the imports still to come, are the imports in order.
use Rattle.std.proofs.Common.{◌≡◌, ◌++◌, map}
use Rattle.pkimport.specs.Import.{asked_shown}
use Rattle.pkimport.proofs.imports.Imports.to_vec.Given as goal

-- the copied imports and the remaining ones are all of them
abbrev pub invariant-loop-import : goal.invariant-loop-import
invariant-loop-import l = map asked_shown l.copies.items ++ l.import-iterator ≡ l.self
