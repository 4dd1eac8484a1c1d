-- What reads do to the bytes held and to the source.
use Rattle.std.specs.Prelude.{◌≡◌, ℕ, List, [], ◌∷◌, ◌++◌, ◌+◌, ◌%◌, ◌^◌, ◌<◌, ◌≤◌, length, take}
use Rattle.std.specs.Prelude.{drop, Result, MatchResult}
use Rattle.std.specs.Io.KnownBytes.{IsAtEnd}
use Rattle.pkops.specs.declared.Reason.TheVariants.{Source, Truncated, TooLarge, OutOfMemory}
use Rattle.pkread.specs.Private.Progress.{Intake}
use Rattle.pkread.specs.Pull.{AreAllBytes}
use Rattle.pkread.specs.Rows.{Reason, Sight, Takes, Fails, all_bytes}

-- n bytes, at least one, were read and appended
pub record ReadsSome (wanted n : ℕ) (old : List ℕ) (before : Sight) (new : List ℕ)
    (after : Sight) : Type 0 where
  pub bytes : List ℕ
  pub fit : AreAllBytes bytes
  pub held : new ≡ old ++ bytes
  pub taken : Takes before after bytes
  pub some : 0 < n
  pub within : n ≤ wanted
  pub count : length bytes ≡ n

-- one byte was read and appended
pub record ReadsByte (byte : ℕ) (old : List ℕ) (before : Sight) (new : List ℕ)
    (after : Sight) : Type 0 where
  pub fit : byte < 256
  pub held : new ≡ old ++ byte ∷ []
  pub taken : Takes before after (byte ∷ [])

-- why a read returned no byte
abbrev pub ReadsNone : Sight → Sight → Reason → Type 0
ReadsNone before after Source = after.failures ≡ (before.failures + 1) % (2 ^ 64)
ReadsNone before after Truncated = Takes before after [] × IsAtEnd after.left
ReadsNone before after OutOfMemory = Takes before after []
ReadsNone before after _ = ⊥

-- the bytes were taken and appended to those held
pub record Took (bytes : List ℕ) (old new : Intake) : Type 0 where
  pub fit : AreAllBytes bytes
  pub held : new.bytes ≡ old.bytes ++ bytes
  pub source : Takes old.source new.source bytes
  pub count : new.taken ≡ old.taken + length bytes

-- `count` bytes were taken
pub record TookAll (count : ℕ) (old new : Intake) : Type 0 where
  pub bytes : List ℕ
  pub took : Took bytes old new
  pub all : length bytes ≡ count

-- n of the `wanted` bytes were taken, at most a block
pub record TookBlock (wanted n : ℕ) (old new : Intake) : Type 0 where
  pub bytes : List ℕ
  pub took : Took bytes old new
  pub some : 0 < n
  pub within : n ≤ wanted
  pub block : n ≤ 4096
  pub count : length bytes ≡ n

-- why no more than these bytes were taken
abbrev pub LackRow : Sight → Sight → List ℕ → ℕ → Reason → Type 0
LackRow before after bytes u Source = Fails before after bytes
LackRow before after bytes u Truncated =
    Takes before after bytes × IsAtEnd after.left × (u < all_bytes)
LackRow before after bytes u TooLarge = Takes before after bytes × (u ≡ all_bytes)
LackRow before after bytes u OutOfMemory = Takes before after bytes
LackRow before after bytes u _ = ⊥

-- fewer than `count` bytes were taken
pub record LacksSome (count : ℕ) (old new : Intake) (reason : Reason) : Type 0 where
  pub bytes : List ℕ
  pub fit : AreAllBytes bytes
  pub held : new.bytes ≡ old.bytes ++ bytes
  pub count_is : new.taken ≡ old.taken + length bytes
  pub lacks : length bytes < count
  pub row : LackRow old.source new.source bytes new.taken reason

-- takes a byte, or says why not
abbrev pub TakesByte : Result ℕ Reason → Intake → Intake → Type 0
TakesByte result old new =
    MatchResult result (λ byte. Took (byte ∷ []) old new) (LacksSome 1 old new)

-- takes `count` bytes, or fewer and says why
abbrev pub TakesAll : {A : Type 0} → ℕ → Result A Reason → Intake → Intake → Type 0
TakesAll count result old new =
    MatchResult result (λ _. TookAll count old new) (LacksSome count old new)

-- takes at least one of `wanted` bytes and at most a block, or says why not
abbrev pub TakesBlock : ℕ → Result ℕ Reason → Intake → Intake → Type 0
TakesBlock wanted result old new =
    MatchResult result
    (λ n. TookBlock wanted n old new)
    (λ reason. (new.bytes ≡ old.bytes) × LacksSome wanted old new reason)

-- a read wrote n bytes into a store at `from`
pub record PulledInto (wanted n from : ℕ) (old new : List ℕ) (before after : Sight) : Type 0 where
  pub same : take from new ≡ take from old
  pub size : length new ≡ length old
  pub fit : AreAllBytes new
  pub taken : Takes before after (take n (drop from new))
  pub within : n ≤ wanted
  pub end : n ≡ 0 → 0 < wanted → IsAtEnd after.left
