-- No pickle, and no row of pickles, is both accepted and refused.
use Rattle.std.specs.Prelude.{◌≡◌, ◌≢◌, ℕ, ◌+◌, ◌++◌, ◌≤◌, ◌⊎◌, All, List, Option, Some, length}
use Rattle.pkops.specs.Contents.{IsGood}
use Rattle.pkops.specs.Limits.{Bounds}
use Rattle.pkops.specs.Payloads.{payload_limit}
use Rattle.pkops.specs.Spelling.{Instruction}
use Rattle.pkops.specs.declared.Reason.{Reason}
use Rattle.pkops.specs.declared.Reason.TheVariants.{Source, OutOfMemory}
use Rattle.pkread.specs.Admission.{IsAllowedBy}
use Rattle.pkread.specs.Rows.{Sight, Takes, all_bytes}
use Rattle.pkread.specs.Sequence.{spellings}
use Rattle.pkmachine.specs.declared.old_strings.OldStrings.{OldStrings}
use Rattle.pkmachine.specs.Knowledge.{Policy}
use Rattle.pkimport.specs.Import.{Asked}
use Rattle.pkcheck.specs.declared.loading.Loading.{Loading}
use Rattle.pkcheck.specs.Accepted.{AcceptedFrom}
use Rattle.pkcheck.specs.Refused.{RefusedFrom}
use Rattle.pkcheck.specs.RowOfPickles.{AcceptedRow, RefusedInRow, begins}
use Rattle.pkmachine.specs.RowRuns.{Beginning, Pickle, sequences_of}
use Rattle.pkcheck.specs.RunFaults.{IsFaultless}

-- if bytes begin with an accepted pickle that is not too long for a reader, no check of these bytes
-- under the same policy, limits and setting, whose runs begin alike, refuses them, unless an
-- allocation is refused or a read fails
abbrev pub YesExcludesNo : Type 0
YesExcludesNo =
    (setting : OldStrings) (beginning : Beginning) (policy : Policy) (limits : Bounds)
    (bytes : List ℕ) (old new : Sight) (taken : ℕ) (imports : List Asked)
    (from : ℕ) (other after : Sight) (at : ℕ) (reason : Reason) (pair : Option Asked) →
    old.left ≡ Some bytes → other.left ≡ Some bytes → from + taken ≤ all_bytes →
    AcceptedFrom setting beginning policy limits old new taken imports →
    RefusedFrom from setting beginning policy limits other after at reason pair →
    reason ≢ Source → reason ≢ OutOfMemory → ⊥

-- likewise for a row of pickles, loaded alike
abbrev pub YesOfRowExcludesNo : Type 0
YesOfRowExcludesNo =
    (loading : Loading) (policy : Policy) (limits : Bounds) (bytes : List ℕ)
    (old new : Sight) (taken pickles : ℕ) (imports : List Asked)
    (other after : Sight) (pickle at : ℕ) (reason : Reason) (pair : Option Asked) →
    old.left ≡ Some bytes → other.left ≡ Some bytes →
    AcceptedRow loading policy limits old new taken pickles imports →
    RefusedInRow loading policy limits other after pickle at reason pair →
    reason ≢ Source → reason ≢ OutOfMemory → ⊥

-- if bytes begin with instructions that have no fault, a check of these bytes under the same
-- policy, limits and setting, after the same pickles, refuses them only after all of these,
-- unless an allocation is refused or a read fails
abbrev pub RefusedBehind : Type 0
RefusedBehind =
    (loading : Loading) (before others : List Pickle) (policy : Policy) (limits : Bounds)
    (bytes : List ℕ) (old there : Sight) (instructions : List Instruction)
    (from : ℕ) (other after : Sight) (at : ℕ) (reason : Reason) (pair : Option Asked) →
    old.left ≡ Some bytes → other.left ≡ Some bytes →
    sequences_of before ≡ sequences_of others →
    from + length (spellings instructions) ≤ all_bytes →
    All (IsAllowedBy (payload_limit limits)) instructions →
    IsFaultless loading.old_strings (begins loading.memo before) policy limits instructions →
    Takes old there (spellings instructions) →
    (refused : RefusedFrom from loading.old_strings (begins loading.memo others) policy limits other
    after at reason pair) →
    reason ≢ Source → reason ≢ OutOfMemory →
    (behind : List Instruction) × (refused.instructions ≡ instructions ++ behind)

-- of two lists of good instructions with which bytes begin, one begins with the other
abbrev pub OneBegins : Type 0
OneBegins =
    (instructions others : List Instruction) (rest more : List ℕ) →
    All IsGood instructions → All IsGood others →
    spellings instructions ++ rest ≡ spellings others ++ more →
    ((behind : List Instruction) × (others ≡ instructions ++ behind))
    ⊎ ((behind : List Instruction) × (instructions ≡ others ++ behind))
