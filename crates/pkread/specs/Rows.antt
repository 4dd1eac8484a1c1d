-- What a refusal says about the bytes: one row for each reason.
use Rattle.std.specs.Prelude.{◌≡◌, ◌≢◌, ℕ, ◌+◌, ◌-◌, ◌^◌, ◌%◌, ◌<◌, ◌⊎◌, List, [], ◌∷◌, ◌++◌}
use Rattle.std.specs.Prelude.{length, take, Option, Some}
use Rattle.std.specs.Io.KnownBytes.{Consumes, IsAtEnd, prepend_known}
use Rattle.pkops.specs.Answer.{IsWhole}
use Rattle.pkops.specs.Scans.{Begun, HasFault}
use Rattle.pkops.specs.Spelling.{Instruction}
use Rattle.pkops.specs.declared.Fault.TheVariants as fault
pub use Rattle.pkops.specs.declared.Reason.{Reason}
use Rattle.pkops.specs.declared.Reason.TheVariants.{Source, Truncated, UnknownOpcode}
use Rattle.pkops.specs.declared.Reason.TheVariants.{BadArgument, TooLarge, ExtensionCode}
use Rattle.pkops.specs.declared.Reason.TheVariants.{UnsupportedProtocol, OutOfMemory}
use Rattle.pkread.specs.Admission.{objection}

-- what contracts see of a source: the bytes left, if it reveals them, and its count of failures
pub record Sight : Type 0 where
  pub left : Option (List ℕ)
  pub failures : ℕ

-- the view of a source, from the ghost members of its type
abbrev pub sight : {R : Type 0} → (R → Option (List ℕ)) → (R → ℕ) → R → Sight
sight left failures r = record { left = left r; failures = failures r }

-- bytes in memory, before any is taken
abbrev pub in_memory : List ℕ → Sight
in_memory bytes = record { left = Some bytes; failures = 0 }

-- the view of a source before these bytes were taken from it
abbrev pub unread : List ℕ → Sight → Sight
unread [] s = s
unread (b ∷ bs) s = record s { left = prepend_known (b ∷ bs) s.left }

-- a run of bytes was taken, and no read failed
pub record Takes (old new : Sight) (run : List ℕ) : Type 0 where
  pub bytes : Consumes old.left new.left run
  pub count : new.failures ≡ old.failures

-- two laws of Takes: an unchanged source has lost no byte, and two runs taken in turn are one run
pub record TakingLaws : Type 0 where
  pub none : (source : Sight) → Takes source source []
  pub more : (old between new : Sight) (first second : List ℕ) →
      Takes old between first → Takes between new second → Takes old new (first ++ second)

-- a run of bytes was taken, and then one read failed; what the failed read consumed is unspecified
pub record Fails (old new : Sight) (run : List ℕ) : Type 0 where
  pub between : Option (List ℕ)
  pub bytes : Consumes old.left between run
  pub count : new.failures ≡ (old.failures + 1) % (2 ^ 64)

-- the most bytes that a reader takes
abbrev pub all_bytes : ℕ
all_bytes = 2 ^ 64 - 1

-- a prefix of the bytes is an instruction that isn't admitted, for this reason
abbrev pub IsBarred : ℕ → List ℕ → Reason → Type 0
IsBarred limit bytes reason =
    (i : Instruction) × (n : ℕ) × IsWhole limit bytes i n × (objection i ≡ Some reason)

-- what is wrong with the bytes of an instruction, for each reason that depends on its bytes alone
abbrev pub IsAmiss : ℕ → List ℕ → Reason → Type 0
IsAmiss limit bytes (UnknownOpcode code) = HasFault limit (fault.UnknownOpcode code) bytes
IsAmiss limit bytes BadArgument = HasFault limit fault.BadArgument bytes
IsAmiss limit bytes TooLarge = HasFault limit fault.TooLarge bytes
IsAmiss limit bytes ExtensionCode = IsBarred limit bytes ExtensionCode
IsAmiss limit bytes (UnsupportedProtocol protocol) =
    IsBarred limit bytes (UnsupportedProtocol protocol)
IsAmiss limit bytes _ = ⊥

-- what each reason says about the bytes taken from the instruction's first byte on; `taken` is the
-- number of bytes taken from the source in all
abbrev pub ShowsReason : ℕ → Sight → Sight → List ℕ → ℕ → Reason → Type 0
ShowsReason limit old new bytes taken Source = Fails old new bytes × Begun limit bytes
ShowsReason limit old new bytes taken Truncated =
    Takes old new bytes × IsAtEnd new.left × (taken < all_bytes) × Begun limit bytes
ShowsReason limit old new bytes taken TooLarge =
    Takes old new bytes × (IsAmiss limit bytes TooLarge ⊎ (Begun limit bytes × (taken ≡ all_bytes)))
ShowsReason limit old new bytes taken OutOfMemory = Takes old new bytes × Begun limit bytes
ShowsReason limit old new bytes taken reason = Takes old new bytes × IsAmiss limit bytes reason

-- no shorter prefix is a whole instruction or already wrong
abbrev pub FrontsBegin : ℕ → List ℕ → Type 0
FrontsBegin limit bytes = (k : ℕ) → k < length bytes → Begun limit (take k bytes)

-- the bytes taken before a refusal for this reason: no more than are needed to show it, and they
-- show no other reason. OutOfMemory is the exception, because it may replace any other reason
pub record Refuses (limit : ℕ) (old new : Sight) (bytes : List ℕ) (before after : ℕ)
    (reason : Reason) : Type 0 where
  pub taken : after ≡ before + length bytes
  pub fronts : FrontsBegin limit bytes
  pub row : ShowsReason limit old new bytes after reason
  pub alone : reason ≢ OutOfMemory → (other : Reason) → other ≢ OutOfMemory →
      ShowsReason limit old new bytes after other → other ≡ reason
