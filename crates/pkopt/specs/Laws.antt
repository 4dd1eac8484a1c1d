-- Laws of the definitions.
use Rattle.std.specs.Prelude.{◌≡◌, ◌≢◌, ◌≤◌, ◌++◌, ℕ, List, length, Option}
use Rattle.pkops.specs.Limits.{Bounds}
use Rattle.pkops.specs.declared.Reason.{Reason}
use Rattle.pkops.specs.declared.Reason.TheVariants.{Source, OutOfMemory, TooLarge}
use Rattle.pkread.specs.Rows.{Sight, all_bytes, in_memory}
use Rattle.pkmachine.specs.declared.OldStrings.TheVariants.{Unknown}
use Rattle.pkcheck.specs.Accepted.{Accepted}
use Rattle.pkmachine.specs.Knowledge.{Policy}
use Rattle.pkimport.specs.Import.{Asked}
use Rattle.pkcheck.specs.Refused.{Refused}
use Rattle.pkopt.specs.Answer.{Optimizes}

-- if a check accepts a pickle, the same check refuses its optimized form only for a limit, a
-- refused allocation or a failed read
abbrev pub FormIsAccepted : Type 0
FormIsAccepted =
    (optimizing : Bounds) (bytes form : List ℕ)
    (policy : Policy) (limits : Bounds)
    (behind : List ℕ) (taken : ℕ) (imports : List Asked)
    (more : List ℕ) (new : Sight) (at : ℕ) (reason : Reason) (pair : Option Asked) →
    Optimizes optimizing bytes form →
    Accepted Unknown policy limits (in_memory bytes) (in_memory behind) taken imports →
    Refused Unknown policy limits (in_memory (form ++ more)) new at reason pair →
    length form ≤ all_bytes → reason ≢ Source → reason ≢ OutOfMemory → reason ≡ TooLarge
