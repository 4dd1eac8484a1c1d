-- What a source gives: what its calls do to the bytes left in it, and to its count of failures.
use Rattle.std.specs.Prelude.{◌≡◌, ℕ, ◌+◌, ◌++◌, ◌%◌, ◌^◌, ◌<◌, ◌≤◌, List, length, take, get_or, ⊤}
use Rattle.std.specs.Prelude.{MatchResult, Result, Option, None, Some}
use Rattle.std.specs.Io.KnownBytes.{Consumes, IsAtEnd}
use Rattle.pkread.specs.declared.source.Memory.{Memory}
use Rattle.pkread.specs.declared.source.Input.{Input}

-- Ok(n): the first n bytes of `to` are the next n of the source, and n is 0 only at its end or
-- without room; Err: nothing is claimed
abbrev pub Pulled : {E : Type 0} → Option (List ℕ) → Option (List ℕ) → Result ℕ E → List ℕ → Type 0
Pulled old new result to =
    MatchResult result
    (λ n. (n ≤ length to) × Consumes old new (take n to) × (n ≡ 0 → 0 < length to → IsAtEnd new))
    (λ _. ⊤)

-- each number is a byte
abbrev pub AreAllBytes : List ℕ → Type 0
AreAllBytes bytes = (i : ℕ) → get_or bytes i 0 < 256

-- the next n bytes, at most `wanted`, are gone, whatever they were
pub record PassedOver (wanted : ℕ) (old new : Option (List ℕ)) (n : ℕ) : Type 0 where
  pub bytes : List ℕ
  pub fit : AreAllBytes bytes
  pub gone : Consumes old new bytes
  pub within : n ≤ wanted
  pub count : length bytes ≡ n

-- Err adds one to the count of failures, modulo 2^64; Ok leaves it
abbrev pub Counted : {E : Type 0} → ℕ → ℕ → Result ℕ E → Type 0
Counted old new result =
    MatchResult result (λ _. new ≡ old) (λ _. new ≡ (old + 1) % (2 ^ 64))

-- the bytes left begin with these
abbrev pub BeginsWith : Option (List ℕ) → List ℕ → Type 0
BeginsWith None shown = ⊤
BeginsWith (Some left) shown = (rest : List ℕ) × (left ≡ shown ++ rest)

-- the bytes left in a source over memory
abbrev pub memory_left : Memory → List ℕ
memory_left m = m.rest.now

module _ {R : Type 0} where
  -- the number of failed reads, modulo 2^64
  abbrev pub input_failures : Input R → ℕ
  input_failures i = i.failures

  -- the reader that supplies the bytes
  abbrev pub input_reader : Input R → R
  input_reader i = i.reader
