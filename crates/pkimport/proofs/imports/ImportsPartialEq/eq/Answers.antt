-- Equality of imports is decided by comparing their lists, one import beside the other.
use Rattle.std.proofs.Common.{Bool, true, false, MatchBool, refl}
use Rattle.std.specs.Prelude.{Decides}
use Rattle.std.proofs.lemmas.Bool.Decides.{same_from_decides}
use Rattle.pkimport.specs.Import.{same_imports}
use Rattle.pkimport.specs.Private.SameImports.{imports_decide}
use Rattle.pkimport.proofs.imports.ImportsPartialEq.eq.Goals as goal

decided_by : {P : Type 0} (r : Bool) → MatchBool r P (P → ⊥) → Decides r P
decided_by true h = (λ e. h, λ p. refl)
decided_by false h = (λ e. cc, λ p. absurd (h p))

pub returns : goal.returns
returns c = same_from_decides c.same.result (same_imports c.args.self.now c.args.other.now)
    (decided_by c.same.result c.same.ensures) (imports_decide c.args.self.now c.args.other.now)
