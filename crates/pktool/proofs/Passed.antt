-- Bytes that are passed over.
use Rattle.std.proofs.Common.{ℕ, zero, suc, ◌+◌, ◌≤◌, List, [], ◌∷◌, ◌++◌, length, Option, None}
use Rattle.std.proofs.Common.{Some, ap, ◌∙◌, sym, arith, length-append, append_assoc}
use Rattle.std.specs.Prelude.{replicate}
use Rattle.std.proofs.lemmas.List.{length-replicate}
use Rattle.std.specs.Io.KnownBytes.{Consumes, prepend_known}
use Rattle.pkread.specs.Pull.{AreAllBytes, PassedOver}

all_zero : (n : ℕ) → AreAllBytes (replicate n 0)
all_zero zero i = omega arith
all_zero (suc n) zero = omega arith
all_zero (suc n) (suc i) = all_zero n i

-- from what reveals nothing, any bytes
pub unknown_passed : (wanted n : ℕ) (new : Option (List ℕ)) → n ≤ wanted →
    PassedOver wanted None new n
unknown_passed wanted n new within = record {
  bytes = replicate n 0;
  fit = all_zero n;
  gone = tt;
  within = within;
  count = length-replicate n 0;
}

both_bytes : (a b : List ℕ) → AreAllBytes a → AreAllBytes b → AreAllBytes (a ++ b)
both_bytes [] b f g i = g i
both_bytes (x ∷ a) b f g zero = f 0
both_bytes (x ∷ a) b f g (suc i) = both_bytes a b (λ k. f (suc k)) g i

gone_behind : (held bytes : List ℕ) (old new : Option (List ℕ)) → Consumes old new bytes →
    Consumes (prepend_known held old) (prepend_known [] new) (held ++ bytes)
gone_behind held bytes None new h = tt
gone_behind held bytes (Some xs) None h = absurd h
gone_behind held bytes (Some xs) (Some ys) h =
    ap (λ (l : List ℕ). held ++ l) h ∙ sym (append_assoc held bytes ys)

-- what is held, and then some of what is behind it
pub passed_behind : {wanted n rest : ℕ} (held : List ℕ) {old new : Option (List ℕ)} →
    AreAllBytes held → length held + rest ≤ wanted → PassedOver rest old new n →
    PassedOver wanted (prepend_known held old) (prepend_known [] new) (length held + n)
passed_behind held {old} {new} fit within p = record {
  bytes = held ++ p.bytes;
  fit = both_bytes held p.bytes fit p.fit;
  gone = gone_behind held p.bytes old new p.gone;
  within = omega (arith, within, p.within);
  count = omega (arith, length-append held p.bytes, p.count);
}
