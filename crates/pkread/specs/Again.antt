-- What a call of `again` does after STOP.
use Rattle.std.specs.Prelude.{◌≡◌, ℕ, ◌<◌, Bool, true, false, List, [], ◌∷◌, Option, Result, Ok}
use Rattle.std.specs.Prelude.{MatchResult}
use Rattle.std.specs.Io.KnownBytes.{IsAtEnd}
use Rattle.pkops.specs.declared.Reason.TheVariants.{Source, TooLarge, OutOfMemory}
use Rattle.pkread.specs.Core.{CoreView, Open, Refused}
use Rattle.pkread.specs.ReaderCalls.{Refusal, ReaderState, source_of}
use Rattle.pkread.specs.Rows.{Reason, Sight, Takes, Fails, Refuses, sight, all_bytes}
use Rattle.pkread.specs.Sequence.{CountsAt}
use Rattle.pkread.specs.declared.reader.Reader.{Reader}

-- why `again` could not read a byte, other than the end of the source
abbrev pub WhyNoByte : Sight → Sight → ℕ → Reason → Type 0
WhyNoByte old new taken Source = Fails old new []
WhyNoByte old new taken TooLarge = Takes old new [] × (taken ≡ all_bytes)
WhyNoByte old new taken OutOfMemory = Takes old new []
WhyNoByte old new taken _ = ⊥

-- the reader refuses at its current offset, now and on every later call
pub record RefusesAgain (old : ReaderState) (r : Refusal) (new : ReaderState) : Type 0 where
  pub place : r.at ≡ old.taken
  pub why : WhyNoByte old.source new.source old.taken r.reason
  pub after : new ≡ record old { source = new.source; phase = Refused r }

-- false: the source is at its end and the reader is unchanged; true: another pickle follows and the
-- reader is open
abbrev pub AnswersAgain : ReaderState → ReaderState → Bool → Type 0
AnswersAgain old new false =
    IsAtEnd new.source.left × (new ≡ record old { source = new.source })
AnswersAgain old new true = new ≡ record old { source = new.source; phase = Open }

-- one call of `again` on a reader that has ended; a byte read ahead does not count as taken yet
abbrev pub StepsAgain : ReaderState → Result Bool Refusal → ReaderState → Type 0
StepsAgain old result new =
    MatchResult result
    (λ more. (old.taken < all_bytes)
    × Takes old.source new.source []
    × AnswersAgain old new more)
    (λ r. RefusesAgain old r new)

-- true means that exactly one byte was read ahead, the first of the next instruction; after any
-- other result no byte is read ahead
abbrev pub TakesOneAhead : {R : Type 0} → (R → Option (List ℕ)) → (R → ℕ)
    → Reader R CoreView → Result Bool Refusal → Reader R CoreView → Type 0
TakesOneAhead left failures old (Ok true) new =
    (byte : ℕ) × (new.core.ahead ≡ byte ∷ [])
    × Takes (sight left failures (source_of old)) (sight left failures (source_of new))
    (byte ∷ [])
TakesOneAhead left failures old _ new = new.core.ahead ≡ []

-- a refusal by `again` is a refusal of the next instruction before its first byte, under any limit
abbrev pub NoByteIsRefused : Type 0
NoByteIsRefused =
    (limit : ℕ) (old new : ReaderState) (r : Refusal) → RefusesAgain old r new →
    Refuses limit old.source new.source [] old.taken old.taken r.reason
    × CountsAt r.reason old.source.failures new.source.failures
