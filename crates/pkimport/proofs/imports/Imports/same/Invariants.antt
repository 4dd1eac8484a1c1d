-- What was compared so far is equal, so what is left of both lists decides.
use Rattle.std.proofs.Common.{◌≡◌}
use Rattle.pkimport.proofs.imports.Imports.same.Given as goal

-- both lists are equal exactly if their remaining parts are
abbrev pub invariant-loop-import : goal.invariant-loop-import
invariant-loop-import l =
    (l.import-iterator ≡ l.others → l.self ≡ l.other)
    × (l.self ≡ l.other → l.import-iterator ≡ l.others)
