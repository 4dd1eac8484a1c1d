-- What the answers of `check_all` and `check_all_loaded` mean for pickles that follow each other in
-- a source.
use Rattle.std.specs.Prelude.{◌≡◌, ◌≢◌, ◌<◌, ℕ, List, [], ◌∷◌, ◌++◌, length, flat_map, All, Option}
use Rattle.std.specs.Prelude.{Some, Result, MatchResult, option_map}
use Rattle.std.specs.Io.KnownBytes.{IsAtEnd}
use Rattle.pkops.specs.Limits.{Bounds}
use Rattle.pkops.specs.Payloads.{payload_limit}
use Rattle.pkops.specs.Spelling.{Instruction}
use Rattle.pkops.specs.declared.Op.{Op}
use Rattle.pkops.specs.declared.Reason.{Reason}
use Rattle.pkops.specs.declared.Reason.TheVariants.{Truncated}
use Rattle.pkread.specs.Rows.{Sight, Takes, all_bytes}
use Rattle.pkread.specs.Sequence.{CountsAt, IsSequence, spellings}
use Rattle.pkcheck.specs.declared.loading.Loading.{Loading}
use Rattle.pkmachine.specs.declared.memo.Memo.{Memo}
use Rattle.pkmachine.specs.declared.memo.Memo.TheVariants.{Fresh, Kept}
use Rattle.pkmachine.specs.declared.old_strings.OldStrings.{OldStrings}
use Rattle.pkcheck.specs.Accepted.{AcceptedFrom}
use Rattle.pkimport.specs.Import.{Asked, asked_shown}
use Rattle.pkmachine.specs.Knowledge.{Policy}
use Rattle.pkcheck.specs.Refused.{RefusedFrom}
use Rattle.pkmachine.specs.RowRuns.{Beginning, Afresh, Behind, Pickle, imports_of_all, sequences_of}
use Rattle.pkcheck.specs.declared.row_of_pickles.YesAll.{YesAll}
use Rattle.pkcheck.specs.declared.row_of_pickles.NoAll.{NoAll}

-- one or more complete sequences, and the bytes that spell them in order
pub record IsRow (limit : Op → ℕ) (sequences : List (List Instruction)) (bytes : List ℕ)
    : Type 0 where
  pub some : sequences ≢ []
  pub each : All (IsSequence limit) sequences
  pub spelled : bytes ≡ flat_map spellings sequences

-- the bytes of all pickles
abbrev pub bytes_of_all : List Pickle → List ℕ
bytes_of_all pickles = flat_map spellings (sequences_of pickles)

-- how `check_all` loads each pickle: with a fresh memo
abbrev pub each_afresh : OldStrings → Loading
each_afresh setting = record { memo = Fresh; old_strings = setting }

-- where the runs of the next pickle begin: those of the first one with nothing, whatever is kept
abbrev pub begins : Memo → List Pickle → Beginning
begins Fresh before = Afresh
begins Kept [] = Afresh
begins Kept (pickle ∷ pickles) = Behind (pickle ∷ pickles)

-- `check` would accept this pickle, with these instructions and imports, after the ones before it
abbrev pub IsAcceptedBehind : Loading → Policy → Bounds → Sight → Sight → List Pickle → Pickle
    → Type 0
IsAcceptedBehind loading policy limits old new before pickle =
    (accepted : AcceptedFrom loading.old_strings (begins loading.memo before) policy limits old new
    (length (spellings pickle.instructions)) pickle.imports)
    × (accepted.instructions ≡ pickle.instructions)

-- each of these pickles is accepted in turn, after those before
abbrev pub AreAccepted :
    Loading → Policy → Bounds → Sight → Sight → List Pickle → List Pickle → Type 0
AreAccepted loading policy limits old new before [] = Takes old new []
AreAccepted loading policy limits old new before (pickle ∷ pickles) =
    (between : Sight) × IsAcceptedBehind loading policy limits old between before pickle
    × AreAccepted loading policy limits between new (before ++ pickle ∷ []) pickles

-- a row of this many pickles was accepted, with `taken` bytes and these imports
pub record AcceptedRow (loading : Loading) (policy : Policy) (limits : Bounds) (old new : Sight)
    (taken pickles : ℕ) (imports : List Asked) : Type 0 where
  pub row : List Pickle
  -- the source is at its end, and its bytes were exactly a row
  pub ends : IsAtEnd new.left
  pub is_row : IsRow (payload_limit limits) (sequences_of row) (bytes_of_all row)
  pub bytes : Takes old new (bytes_of_all row)
  pub count : taken ≡ length (bytes_of_all row)
  -- one more byte could still be counted; if none can, the answer is TooLarge
  pub within : taken < all_bytes
  pub number : pickles ≡ length row
  -- each pickle is accepted, and the imports are theirs, in order
  pub each : AreAccepted loading policy limits old new [] row
  pub listed : imports ≡ imports_of_all row

-- the source is not known to be at its end
abbrev pub HasMore : Sight → Type 0
HasMore here = here.left ≢ Some []

-- the pickle with this index, counted from 0, was refused, and those before it were accepted
pub record RefusedInRow (loading : Loading) (policy : Policy) (limits : Bounds) (old new : Sight)
    (pickle at : ℕ) (reason : Reason) (pair : Option Asked) : Type 0 where
  pub before : List Pickle
  pub number : pickle ≡ length before
  -- the source after the pickles before it
  pub here : Sight
  pub each : AreAccepted loading policy limits old here [] before
  pub refused : RefusedFrom (length (bytes_of_all before)) loading.old_strings
      (begins loading.memo before) policy limits here new at reason pair
  -- a row may end after any pickle, so Truncated means that another pickle had begun
  pub more : reason ≡ Truncated → before ≢ [] → HasMore here

-- the answer is right, given the source before the check and after it
abbrev pub IsRightOfRow : Loading → Policy → Bounds → Sight → Sight → Result YesAll NoAll → Type 0
IsRightOfRow loading policy limits old new answer =
    MatchResult answer
    (λ yes. AcceptedRow loading policy limits old new yes.taken yes.pickles yes.imports)
    (λ all. RefusedInRow loading policy limits old new all.pickle all.no.at all.no.reason
    (option_map asked_shown all.no.pair))

-- the count of failed reads rises by one if the reason is Source, and otherwise stays the same
abbrev pub CountsInRow : ℕ → ℕ → Result YesAll NoAll → Type 0
CountsInRow old new answer =
    MatchResult answer (λ _. new ≡ old) (λ all. CountsAt all.no.reason old new)
