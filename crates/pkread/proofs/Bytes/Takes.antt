-- What was taken from a source, and faults of it.
use Rattle.std.proofs.Common.{ℕ, List, [], ◌++◌, Option, None, Some, sym, ap, ◌∙◌, append_assoc}
use Rattle.std.proofs.Common.{append-nil}
use Rattle.std.specs.Io.KnownBytes.{Consumes}
use Rattle.pkops.specs.Scans.{HasFault}
use Rattle.pkops.specs.declared.Fault.{Fault}
use Rattle.pkops.specs.declared.Fault.TheVariants as fault
use Rattle.pkread.specs.Private.Judgement.{fault_reason}
use Rattle.pkread.specs.Rows.{IsAmiss, Sight, Takes}

-- known bytes that were taken twice were taken at once
pub Consumes-more : (a b c : Option (List ℕ)) (xs ys : List ℕ) → Consumes a b xs →
    Consumes b c ys → Consumes a c (xs ++ ys)
Consumes-more None b c xs ys p q = tt
Consumes-more (Some l) None c xs ys p q = absurd p
Consumes-more (Some l) (Some m) None xs ys p q = absurd q
Consumes-more (Some l) (Some m) (Some n) xs ys p q = p ∙ ap (λ (k : List ℕ). xs ++ k) q
    ∙ sym (append_assoc xs ys n)

-- what was taken twice was taken at once
pub Takes-more : {o m n : Sight} {b c : List ℕ} → Takes o m b → Takes m n c → Takes o n (b ++ c)
Takes-more {o} {m} {n} {b} {c} p q = record {
  bytes = Consumes-more o.left m.left n.left b c p.bytes q.bytes;
  count = q.count ∙ p.count;
}

-- taking nothing more changes nothing
pub Takes-none : {o m n : Sight} {b : List ℕ} → Takes o m b → Takes m n [] → Takes o n b
Takes-none {o} {m} {n} {b} p q = rw (← append-nil b) (Takes-more p q)

-- a fault is amiss
pub fault_is_amiss : (limit : ℕ) (b : List ℕ) (f : Fault) → HasFault limit f b →
    IsAmiss limit b (fault_reason f)
fault_is_amiss limit b (fault.UnknownOpcode c) w = w
fault_is_amiss limit b fault.BadArgument w = w
fault_is_amiss limit b fault.TooLarge w = w
