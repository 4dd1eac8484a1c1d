-- Two yeses to the same bytes list the same imports.
use Rattle.std.specs.Prelude.{◌≡◌, ℕ, List, Some}
use Rattle.pkops.specs.Limits.{Bounds}
use Rattle.pkread.specs.Rows.{Sight}
use Rattle.pkmachine.specs.declared.old_strings.OldStrings.{OldStrings}
use Rattle.pkmachine.specs.Knowledge.{Policy}
use Rattle.pkmachine.specs.RowRuns.{Beginning}
use Rattle.pkimport.specs.Import.{Asked}
use Rattle.pkcheck.specs.declared.loading.Loading.{Loading}
use Rattle.pkcheck.specs.Accepted.{AcceptedFrom}
use Rattle.pkcheck.specs.RowOfPickles.{AcceptedRow}

-- two yeses to the same bytes, whose runs begin alike under the same setting, take as many bytes
-- and list the same imports, whatever permits these and whatever the limits are
abbrev pub SameImports : Type 0
SameImports =
    (setting : OldStrings) (beginning : Beginning) (policy other_policy : Policy)
    (limits other_limits : Bounds) (bytes : List ℕ) (old new other after : Sight)
    (taken other_taken : ℕ) (imports other_imports : List Asked) →
    old.left ≡ Some bytes → other.left ≡ Some bytes →
    AcceptedFrom setting beginning policy limits old new taken imports →
    AcceptedFrom setting beginning other_policy other_limits other after other_taken other_imports →
    (taken ≡ other_taken) × (imports ≡ other_imports)

-- two yeses to the same row of pickles, loaded alike, count as many pickles and bytes and list the
-- same imports
abbrev pub SameImportsOfRow : Type 0
SameImportsOfRow =
    (loading : Loading) (policy other_policy : Policy) (limits other_limits : Bounds)
    (bytes : List ℕ) (old new other after : Sight)
    (taken pickles other_taken other_pickles : ℕ) (imports other_imports : List Asked) →
    old.left ≡ Some bytes → other.left ≡ Some bytes →
    AcceptedRow loading policy limits old new taken pickles imports →
    AcceptedRow loading other_policy other_limits other after other_taken other_pickles
    other_imports →
    (taken ≡ other_taken) × (pickles ≡ other_pickles) × (imports ≡ other_imports)
