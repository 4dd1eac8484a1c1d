-- Two refusals of the same bytes are one refusal.
use Rattle.std.specs.Prelude.{◌≡◌, ◌≢◌, ◌+◌, ◌≤◌, ℕ, List, Option, Some, length}
use Rattle.pkops.specs.Limits.{Bounds}
use Rattle.pkops.specs.declared.Reason.{Reason}
use Rattle.pkops.specs.declared.Reason.TheVariants.{Source, OutOfMemory}
use Rattle.pkread.specs.Rows.{Sight, all_bytes}
use Rattle.pkmachine.specs.Knowledge.{Policy}
use Rattle.pkmachine.specs.RowRuns.{Pickle, sequences_of}
use Rattle.pkimport.specs.Import.{Asked}
use Rattle.pkcheck.specs.declared.loading.Loading.{Loading}
use Rattle.pkcheck.specs.Refused.{RefusedFrom}
use Rattle.pkcheck.specs.RowOfPickles.{begins}

-- two refusals of the same bytes, not too long for a reader, under the same policy, limits and
-- setting, after the same pickles, are at the same offset, for the same reason, with the same pair,
-- unless an allocation was refused or a read failed
abbrev pub OneRefusal : Type 0
OneRefusal =
    (from : ℕ) (loading : Loading) (before others : List Pickle) (policy : Policy) (limits : Bounds)
    (bytes : List ℕ) (old new other after : Sight) (at place : ℕ) (reason why : Reason)
    (pair shown : Option Asked) →
    old.left ≡ Some bytes → other.left ≡ Some bytes → from + length bytes ≤ all_bytes →
    sequences_of before ≡ sequences_of others →
    RefusedFrom from loading.old_strings (begins loading.memo before) policy limits old new at
    reason pair →
    RefusedFrom from loading.old_strings (begins loading.memo others) policy limits other after
    place why shown →
    reason ≢ Source → reason ≢ OutOfMemory → why ≢ Source → why ≢ OutOfMemory →
    (at ≡ place) × (reason ≡ why) × (pair ≡ shown)
