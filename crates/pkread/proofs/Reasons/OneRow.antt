-- At most one reason of reading has its row.
use Rattle.std.proofs.Common.{◌≡◌, ◌≢◌, ℕ, ◌+◌, ◌%◌, ◌^◌, ◌<◌, List, Some, None, refl, sym, ◌∙◌}
use Rattle.std.proofs.Common.{arith, inl, inr}
use Rattle.pkops.specs.Answer.{Answer, Answers, Bad, More, Whole}
use Rattle.pkops.specs.declared.Fault.TheVariants as fault
use Rattle.pkops.specs.declared.Reason.TheVariants.{Source, Truncated, UnknownOpcode}
use Rattle.pkops.specs.declared.Reason.TheVariants.{BadArgument, TooLarge, ExtensionCode}
use Rattle.pkops.specs.declared.Reason.TheVariants.{UnsupportedProtocol, OutOfMemory}
use Rattle.pkread.specs.Admission.{objection}
use Rattle.pkread.specs.Private.Judgement.{fault_reason}
use Rattle.pkread.specs.Genops.{EndsOrIsAmiss}
use Rattle.pkread.specs.Rows.{Reason, IsAmiss, ShowsReason, Sight, all_bytes}

-- what `pkops` promises of the answers of a scan
abbrev pub OneAnswer : Type 0
OneAnswer = (limit : ℕ) (bytes : List ℕ) (r s : Answer) → Answers limit bytes r
    → Answers limit bytes s → r ≡ s

-- what is known of the source where the bytes only begin an instruction
abbrev Waits : Sight → Sight → ℕ → Reason → Type 0
Waits old new taken Source = new.failures ≡ (old.failures + 1) % (2 ^ 64)
Waits old new taken Truncated = (new.failures ≡ old.failures) × (taken < all_bytes)
Waits old new taken TooLarge = (new.failures ≡ old.failures) × (taken ≡ all_bytes)
Waits old new taken _ = ⊥

-- a reason and the answer of a scan that its row comes with
abbrev ComesWith : Sight → Sight → ℕ → Answer → Reason → Type 0
ComesWith old new taken (Whole i n) reason = objection i ≡ Some reason
ComesWith old new taken More reason = Waits old new taken reason
ComesWith old new taken (Bad f) reason = reason ≡ fault_reason f

-- a count that has risen is another one
rises : (n m : ℕ) → m ≡ (n + 1) % (2 ^ 64) → m ≡ n → ⊥
rises n m up same = omega arith

waits_alone : (o n : Sight) (t : ℕ) (r s : Reason) → Waits o n t r → Waits o n t s → s ≡ r
waits_alone o n t Source Source p q = refl
waits_alone o n t Source Truncated p q = absurd (rises o.failures n.failures p q.0)
waits_alone o n t Source TooLarge p q = absurd (rises o.failures n.failures p q.0)
waits_alone o n t Source _ p q = absurd q
waits_alone o n t Truncated Source p q = absurd (rises o.failures n.failures q p.0)
waits_alone o n t Truncated Truncated p q = refl
waits_alone o n t Truncated TooLarge p q = absurd (omega (arith, p.1, q.1))
waits_alone o n t Truncated _ p q = absurd q
waits_alone o n t TooLarge Source p q = absurd (rises o.failures n.failures q p.0)
waits_alone o n t TooLarge Truncated p q = absurd (omega (arith, p.1, q.1))
waits_alone o n t TooLarge TooLarge p q = refl
waits_alone o n t TooLarge _ p q = absurd q
waits_alone o n t _ s p q = absurd p

comes_alone : (o n : Sight) (t : ℕ) (a : Answer) (r s : Reason) → ComesWith o n t a r
    → ComesWith o n t a s → s ≡ r
comes_alone o n t (Whole i k) r s p q = cc
comes_alone o n t More r s p q = waits_alone o n t r s p q
comes_alone o n t (Bad f) r s p q = q ∙ sym p

row_comes : (limit : ℕ) (o n : Sight) (b : List ℕ) (t : ℕ) (r : Reason) → r ≢ OutOfMemory
    → ShowsReason limit o n b t r → (a : Answer) × Answers limit b a × ComesWith o n t a r
row_comes limit o n b t Source ne w = (More, w.1, w.0.count)
row_comes limit o n b t Truncated ne w = (More, w.3, (w.0.count, w.2))
row_comes limit o n b t (UnknownOpcode c) ne w = (Bad (fault.UnknownOpcode c), w.1, refl)
row_comes limit o n b t BadArgument ne w = (Bad fault.BadArgument, w.1, refl)
row_comes limit o n b t TooLarge ne w = elim w.1 [
  | inl f ↦ (Bad fault.TooLarge, f, refl)
  | inr g ↦ (More, g.0, (w.0.count, g.1))
]
row_comes limit o n b t ExtensionCode ne w = (Whole w.1.0 w.1.1, w.1.2, w.1.3)
row_comes limit o n b t (UnsupportedProtocol p) ne w = (Whole w.1.0 w.1.1, w.1.2, w.1.3)
row_comes limit o n b t OutOfMemory ne w = absurd (ne refl)
row_comes limit o n b t _ ne w = absurd w.1

-- two reasons with their rows are one, want of memory aside
pub one_row : OneAnswer → (limit : ℕ) (o n : Sight) (b : List ℕ) (t : ℕ) (r : Reason)
    → ShowsReason limit o n b t r → r ≢ OutOfMemory → (s : Reason) → s ≢ OutOfMemory
    → ShowsReason limit o n b t s → s ≡ r
one_row one limit o n b t r p ne s nf q =
    let x = row_comes limit o n b t r ne p in
    let y = row_comes limit o n b t s nf q in
    comes_alone o n t y.0 r s (rw (one limit b x.0 y.0 x.1 y.1) at x.2) y.2

-- a source of which nothing is told
abbrev blind : Sight
blind = record { left = None; failures = 0 }

refused_row : (limit : ℕ) (b : List ℕ) (r : Reason) → EndsOrIsAmiss limit b r
    → ShowsReason limit blind blind b 0 r × (r ≢ OutOfMemory)
refused_row limit b Truncated w =
    ((record { bytes = tt; count = refl }, tt, omega arith, w), λ e. cc)
refused_row limit b (UnknownOpcode c) w = ((record { bytes = tt; count = refl }, w), λ e. cc)
refused_row limit b BadArgument w = ((record { bytes = tt; count = refl }, w), λ e. cc)
refused_row limit b TooLarge w = ((record { bytes = tt; count = refl }, inl w), λ e. cc)
refused_row limit b ExtensionCode w = ((record { bytes = tt; count = refl }, w), λ e. cc)
refused_row limit b (UnsupportedProtocol p) w = ((record { bytes = tt; count = refl }, w), λ e. cc)
refused_row limit b _ w = absurd w

-- the same of the bytes of a slice
pub one_refused : OneAnswer → (limit : ℕ) (b : List ℕ) (r : Reason) → EndsOrIsAmiss limit b r
    → (s : Reason) → EndsOrIsAmiss limit b s → s ≡ r
one_refused one limit b r p s q =
    let x = refused_row limit b r p in
    let y = refused_row limit b s q in
    one_row one limit blind blind b 0 r x.0 x.1 s y.1 y.0

-- a reason that is refused, and no other is
abbrev pub RefusedAlone : ℕ → List ℕ → Reason → Type 0
RefusedAlone limit bytes reason = EndsOrIsAmiss limit bytes reason
    × ((other : Reason) → EndsOrIsAmiss limit bytes other → other ≡ reason)

-- what is refused for one reason is refused for no other
pub alone : OneAnswer → (limit : ℕ) (b : List ℕ) (r : Reason) → EndsOrIsAmiss limit b r
    → RefusedAlone limit b r
alone one limit b r p = (p, one_refused one limit b r p)

amiss_refused : (limit : ℕ) (b : List ℕ) (r : Reason) → IsAmiss limit b r → EndsOrIsAmiss limit b r
amiss_refused limit b Truncated p = absurd p
amiss_refused limit b _ p = p

-- the same of what is amiss
pub amiss_alone : OneAnswer → (limit : ℕ) (b : List ℕ) (r : Reason) → IsAmiss limit b r
    → RefusedAlone limit b r
amiss_alone one limit b r p = alone one limit b r (amiss_refused limit b r p)
