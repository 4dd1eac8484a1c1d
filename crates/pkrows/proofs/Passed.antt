-- Bytes that a source of unseen bytes passes over.
use Rattle.std.proofs.Common.{ℕ, zero, suc, ◌≤◌, None, arith}
use Rattle.std.specs.Prelude.{replicate}
use Rattle.std.proofs.lemmas.List.{length-replicate}
use Rattle.pkread.specs.Pull.{AreAllBytes, PassedOver}

all_zero : (n : ℕ) → AreAllBytes (replicate n 0)
all_zero zero i = omega arith
all_zero (suc n) zero = omega arith
all_zero (suc n) (suc i) = all_zero n i

pub unseen_passed : (wanted n : ℕ) → n ≤ wanted → PassedOver wanted None None n
unseen_passed wanted n within = record {
  bytes = replicate n 0;
  fit = all_zero n;
  gone = tt;
  within = within;
  count = length-replicate n 0;
}
