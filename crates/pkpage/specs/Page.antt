-- The listing of a pickle in memory.
use Rattle.std.specs.Prelude.{◌≡◌, ◌++◌, ℕ, List, [], length, drop, leb, if◌then◌else◌}
use Rattle.std.specs.Prelude.{Result, Some, None}
use Rattle.pkops.specs.Limits.{holding_all, standard}
use Rattle.pkread.specs.Rows.{Sight}
use Rattle.pkcheck.specs.Heard.{Heard, IsRightAndHeard}
use Rattle.pkcheck.specs.declared.Yes.{Yes}
use Rattle.pkcheck.specs.declared.No.{No}
use Rattle.pkprint.specs.Listing.{listing}
use Rattle.pkprint.specs.Verdict.{outcome_of}
use Rattle.pkprint.specs.declared.Outcome.{Outcome}
use Rattle.pkprint.specs.declared.Outcome.TheVariants.{Done}

-- a source of these bytes
abbrev pub memory : List ℕ → Sight
memory bytes = record { left = Some bytes; failures = 0 }

-- the bytes at the front of the buffer if they fit, otherwise the buffer unchanged
abbrev pub placed : List ℕ → List ℕ → List ℕ
placed bytes room =
    if leb (length bytes) (length room) then bytes ++ drop (length bytes) room else room

-- the number of an outcome
abbrev pub status_of : Outcome → ℕ
status_of Done = 0
status_of _ = 1

-- the pickle at the front of the bytes is listed after a text, with every import permitted
pub record IsListed (pickle before after : List ℕ) (outcome : Outcome) : Type 0 where
  pub answer : Result Yes No
  pub instructions : List Heard
  pub rest : List ℕ
  pub heard : IsRightAndHeard None (holding_all standard) (memory pickle) (memory rest) answer
      instructions
  pub text : after ≡ before ++ listing answer instructions
  pub told : outcome ≡ outcome_of answer

-- the listing of the pickle at the front of the bytes is in the buffer, if it fits
pub record IsListing (pickle before after : List ℕ) (wanted status : ℕ) : Type 0 where
  pub text : List ℕ
  pub outcome : Outcome
  pub listed : IsListed pickle [] text outcome
  pub size : wanted ≡ length text
  pub room : after ≡ placed text before
  pub told : status ≡ status_of outcome
