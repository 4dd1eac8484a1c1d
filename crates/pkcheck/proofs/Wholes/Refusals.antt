-- Refusals by the frame rules or the machine: no fault is tried before, and no read failed.
use Rattle.std.proofs.Common.{◌≡◌, ℕ, ◌<◌, List, inl, inr, sym, subst, arith}
use Rattle.pkops.specs.Limits.{Bounds}
use Rattle.pkops.specs.Spelling.{Instruction}
use Rattle.pkops.specs.declared.Reason.{Reason}
use Rattle.pkops.specs.declared.Reason.TheVariants as reason
use Rattle.pkread.specs.Sequence.{CountsAt}
use Rattle.pkcheck.specs.Private.Judgement.{IsRefused}
use Rattle.pkmachine.specs.Knowledge.{Policy, Refusal, reason_of, Lacks}
use Rattle.pkstack.specs.Shape.{NoMark}
use Rattle.pkcheck.specs.RunFaults.{HasRunFault}
use Rattle.pkmachine.specs.Faults.{Arrivals, rank}
use Rattle.pkmachine.specs.View.{View}

-- no fault is tried before the frame rules
pub none_earlier : (policy : Policy) (limits : Bounds) (p : List Instruction) (i : Instruction)
    (here : Arrivals) (r : Reason) → rank r < 1 → HasRunFault policy limits p here i r → ⊥
none_earlier policy limits p i here reason.Source lt h = h
none_earlier policy limits p i here reason.Truncated lt h = h
none_earlier policy limits p i here (reason.UnknownOpcode b) lt h = h
none_earlier policy limits p i here reason.BadArgument lt h = h
none_earlier policy limits p i here reason.ExtensionCode lt h = h
none_earlier policy limits p i here (reason.UnsupportedProtocol n) lt h = h
none_earlier policy limits p i here reason.OutOfMemory lt h = h
none_earlier policy limits p i here _ lt h = absurd (omega (arith, lt))

-- a refusal by the machine is no failed read
counts_same : (f : Refusal) (a b : ℕ) → b ≡ a → CountsAt (reason_of f) a b
counts_same (Lacks NoMark) a b e = e
counts_same _ a b e = e

pub counts_at : (policy : Policy) (i : Instruction) (still_open : ℕ) (m n : View) (why : Reason)
    → IsRefused policy i still_open m n why → (a b : ℕ) → b ≡ a → CountsAt why a b
counts_at policy i still_open m n why (inl (e, becomes, is)) a b same =
    subst (λ x. CountsAt x a b) (sym is) same
counts_at policy i still_open m n why (inr (o, inl (f, e, is, becomes))) a b same =
    subst (λ x. CountsAt x a b) (sym is) (counts_same f a b same)
counts_at policy i still_open m n why (inr (o, inr (wants, is, becomes))) a b same =
    subst (λ x. CountsAt x a b) (sym is) same
