-- How much of the caller's buffer is written.
use Rattle.std.specs.Prelude.{◌≡◌, ◌≤◌, ◌++◌, ℕ, List, length, drop, min}
use Rattle.pkguard.specs.Encoding.{greatest_number}

-- the bytes were written to the front of the buffer if it has room for all of them; `next` is the
-- offset after them
pub record IsWritten (bytes before after : List ℕ) (next : ℕ) : Type 0 where
  pub same : length after ≡ length before
  pub place : next ≡ min (length bytes) greatest_number
  pub there : length bytes ≤ length before → after ≡ bytes ++ drop (length bytes) before
