-- The result of a check with a listener.
use Rattle.std.specs.Prelude.{◌≡◌, ℕ, List, length}
use Rattle.pkops.specs.Limits.{Bounds}
use Rattle.pkread.specs.Sequence.{spellings}
use Rattle.pkopt.specs.declared.optimizing.Traced.{Traced}
use Rattle.pkopt.specs.Answer.{Checks, pickle}
use Rattle.pkopt.specs.Private.Passes.{Tracks}

-- the pickle at the front of the bytes passes the check, and this is what the listener recorded
pub record IsTraced (limits : Bounds) (bytes : List ℕ) (x : Traced) : Type 0 where
  pub checks : Checks limits bytes
  pub tracks : Tracks (pickle checks) x.trace
  pub count : x.taken ≡ length (spellings (pickle checks))
