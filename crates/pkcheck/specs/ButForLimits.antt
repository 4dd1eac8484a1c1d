-- Pickles that can be refused only because of their size.
use Rattle.std.specs.Prelude.{◌≡◌, ◌≢◌, ◌≤◌, ℕ, List, ◌∷◌, ◌++◌, length, Option, Some}
use Rattle.pkops.specs.Limits.{Bounds}
use Rattle.pkops.specs.Payloads.{payload_limit}
use Rattle.pkops.specs.Spelling.{Instruction}
use Rattle.pkops.specs.declared.Reason.{Reason}
use Rattle.pkops.specs.declared.Reason.TheVariants.{Source, OutOfMemory, TooLarge}
use Rattle.pkread.specs.Rows.{Sight, all_bytes}
use Rattle.pkread.specs.Sequence.{IsSequence, spellings}
use Rattle.pkmachine.specs.declared.old_strings.OldStrings.{OldStrings}
use Rattle.pkmachine.specs.Faults.{everyone}
use Rattle.pkmachine.specs.Knowledge.{Policy}
use Rattle.pkimport.specs.Import.{Asked}
use Rattle.pkcheck.specs.Refused.{Refused}
use Rattle.pkcheck.specs.RunFaults.{HasRunFault}
use Rattle.pkmachine.specs.RowRuns.{RunsBehind}

-- no instruction of the list has a fault, except that it may exceed a limit
abbrev pub IsFaultlessButForLimits :
    OldStrings → Policy → Bounds → List Instruction → Type 0
IsFaultlessButForLimits setting policy limits instructions =
    (before : List Instruction) (instruction : Instruction) (after : List Instruction)
    → instructions ≡ before ++ instruction ∷ after
    → (reason : Reason)
    → reason ≢ TooLarge
    → HasRunFault policy limits before (everyone (RunsBehind setting before)) instruction reason
    → ⊥

-- bytes that begin with such a sequence are refused only because of a limit, a refused allocation
-- or a failed read
abbrev pub RefusedForLimits : Type 0
RefusedForLimits =
    (setting : OldStrings) (policy : Policy) (limits : Bounds)
    (instructions : List Instruction) (rest : List ℕ)
    (old new : Sight) (at : ℕ) (reason : Reason) (pair : Option Asked) →
    IsSequence (payload_limit limits) instructions →
    IsFaultlessButForLimits setting policy limits instructions →
    old.left ≡ Some (spellings instructions ++ rest) →
    length (spellings instructions) ≤ all_bytes →
    Refused setting policy limits old new at reason pair →
    reason ≢ Source → reason ≢ OutOfMemory → reason ≡ TooLarge
