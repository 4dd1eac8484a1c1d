-- A check that accepts a pickle refuses its optimized form for limits alone.
use Rattle.std.proofs.Common.{◌≡◌, ℕ, List, [], ◌∷◌, ◌++◌, length, Some, inl, inr, refl, sym, ap}
use Rattle.std.proofs.Common.{subst, ◌∙◌, arith}
use Rattle.std.specs.Prelude.{All, ◌≤◌}
use Rattle.std.proofs.lemmas.List.Elements.{All-cons, All-head, All-nil, All-tail}
use Rattle.pkops.specs.Limits.{holding_all}
use Rattle.pkops.specs.Payloads.{payload_limit}
use Rattle.pkops.specs.Scans.{IsWithin}
use Rattle.pkops.specs.Spelling.{Argument, Counted, Instruction, Suits, layout_at}
use Rattle.pkops.specs.declared.Op.{Op}
use Rattle.pkops.specs.declared.Op.TheVariants as op
use Rattle.pkread.specs.Admission.{IsAllowedBy}
use Rattle.pkread.specs.Rows.{all_bytes}
use Rattle.pkread.specs.Sequences.{OneSequence}
use Rattle.pkstack.specs.declared.Move.{Move}
use Rattle.pkmachine.specs.declared.OldStrings.TheVariants.{Unknown}
use Rattle.pkcheck.specs.ButForLimits.{IsFaultlessButForLimits, RefusedForLimits}
use Rattle.pkmachine.specs.Effects.{Moves, effect_of}
use Rattle.pkopt.specs.Answer.{pickle}
use Rattle.pkopt.specs.Laws.{FormIsAccepted}
use Rattle.pkopt.specs.OneFrame.{optimized}
use Rattle.pkopt.proofs.BothRuns.Origins.{stands}

-- a move has no payload
no_payload : (limit : ℕ) (o : Op) (m : Move) (payload : List ℕ) → effect_of o ≡ Moves m
    → Suits (layout_at o) (Counted payload) → IsWithin limit (Counted payload)
no_payload limit op.Pop m payload e h = absurd h
no_payload limit o m payload e h = grind (arith, h)

move_within : (limit : ℕ) (o : Op) (m : Move) (a : Argument) → effect_of o ≡ Moves m
    → Suits (layout_at o) a → IsWithin limit a
move_within limit o m (Counted payload) e h = no_payload limit o m payload e h
move_within limit o m a e h = tt

module _ (P : Instruction → Type 0) where
  all_by_place : (q : List Instruction)
      → ((front : List Instruction) (j : Instruction) (back : List Instruction)
      → q ≡ front ++ j ∷ back → P j) → All P q
  all_by_place [] each = All-nil P
  all_by_place (i ∷ is) each = All-cons P i is (each [] i is refl)
      (all_by_place is
      (λ front j back e. each (i ∷ front) j back (ap (λ (xs : List Instruction). i ∷ xs) e)))

  at_place : (before : List Instruction) (j : Instruction) (behind : List Instruction)
      → All P (before ++ j ∷ behind) → P j
  at_place [] j behind h = All-head P j behind h
  at_place (k ∷ ks) j behind h = at_place ks j behind (All-tail P k (ks ++ j ∷ behind) h)

-- a move has no payload, and other instructions of the form stand in the pickle
allowed_as : (limit other : Op → ℕ) (p : List Instruction) → All (IsAllowedBy limit) p
    → All (IsAllowedBy other) (optimized p) → All (IsAllowedBy limit) (optimized p)
allowed_as limit other p each all = all_by_place (IsAllowedBy limit) (optimized p)
    (λ front j back e. elim (stands p front j back e) [
      | inl m ↦
          let a = at_place (IsAllowedBy other) front j back
          (subst (All (IsAllowedBy other)) e all) in
          record {
            good = a.good;
            within = move_within (limit j.op) j.op m.0 j.arg m.1 a.good.suits;
            admitted = a.admitted;
          }
      | inr s ↦ at_place (IsAllowedBy limit) s.0 j s.1 (subst (All (IsAllowedBy limit)) s.2 each)
    ])

pub form_is_accepted : OneSequence → RefusedForLimits → FormIsAccepted
form_is_accepted one refused_for optimizing bytes form policy limits behind taken imports more
    new at reason pair o accepted refused few source memory =
    let p = pickle o.checks in
    let bytes_of = sym accepted.bytes.bytes ∙ o.checks.accepted.bytes.bytes in
    let same =
    (one (payload_limit limits) (payload_limit (holding_all optimizing)) accepted.instructions p
    behind o.checks.rest accepted.sequence o.checks.accepted.sequence bytes_of).0 in
    let fine : IsFaultlessButForLimits Unknown policy limits p =
    subst (IsFaultlessButForLimits Unknown policy limits) same
    (λ before i is e r other f. accepted.faultless before i is e r f) in
    let each = allowed_as (payload_limit limits) (λ _. optimizing.counted) p
    (subst (All (IsAllowedBy (payload_limit limits))) same accepted.sequence.each)
    o.sequence.each in
    refused_for Unknown policy limits (optimized p) more _ new at reason pair
    (record { each = each; stops = o.sequence.stops }) (o.faultless policy limits fine)
    (ap (λ (l : List ℕ). Some (l ++ more)) o.spelled)
    (subst (λ (l : List ℕ). length l ≤ all_bytes) o.spelled few) refused source memory
