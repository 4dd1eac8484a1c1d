-- Bytes that begin with instructions that have no fault are refused only behind these.
use Rattle.std.proofs.Common.{◌≡◌, ℕ, ◌⊎◌, inl, inr, List, [], ◌∷◌, ◌++◌, Some, refl, sym, ap, ◌∙◌}
use Rattle.std.proofs.Common.{append_assoc}
use Rattle.std.specs.Prelude.{All}
use Rattle.std.proofs.lemmas.List.Elements.{All-cons, All-head, All-nil, All-tail}
use Rattle.pkops.specs.Contents.{IsGood}
use Rattle.pkops.specs.Limits.{Bounds}
use Rattle.pkops.specs.Payloads.{payload_limit}
use Rattle.pkops.specs.Scans.{Begun}
use Rattle.pkops.specs.Spelling.{Instruction, spelling}
use Rattle.pkread.specs.Admission.{IsAllowedBy}
use Rattle.pkread.specs.Sequence.{spellings}
use Rattle.pkread.specs.Sequences.{GoesOnBehind, OneFront, SequenceGoesOn}
use Rattle.pkcheck.specs.Exclusive.{OneBegins, RefusedBehind}
use Rattle.pkmachine.specs.Faults.{everyone}
use Rattle.pkcheck.specs.RunFaults.{HasRunFault}
use Rattle.pkcheck.proofs.Wholes.Exclusive.{OneAnswer, consumed, not_why}
use Rattle.pkcheck.proofs.Wholes.ExclusiveRows.{same_runs}

pub all_good : (limits : Bounds) (p : List Instruction)
    → All (IsAllowedBy (payload_limit limits)) p → All IsGood p
all_good limits [] h = All-nil IsGood
all_good limits (i ∷ p) h =
    All-cons IsGood i p (All-head (IsAllowedBy (payload_limit limits)) i p h).good
    (all_good limits p (All-tail (IsAllowedBy (payload_limit limits)) i p h))

module _ (front : OneFront) where
  -- of two lists of instructions with which bytes begin, one begins with the other
  pub parts : (p q : List Instruction) (rest tail : List ℕ) → All IsGood p → All IsGood q
      → spellings p ++ rest ≡ spellings q ++ tail
      → GoesOnBehind p q rest tail ⊎ ((behind : List Instruction) × (q ≡ p ++ behind))
  parts [] q rest tail g h e = inr (q, refl)
  parts (x ∷ p) [] rest tail g h e = inl
      (record {
        next = x;
        after = p;
        split = refl;
        bytes = sym e ∙ append_assoc (spelling x) (spellings p) rest;
      })
  parts (x ∷ p) (y ∷ q) rest tail g h e =
      let f = front x y (spellings p ++ rest) (spellings q ++ tail) (All-head IsGood x p g)
      (All-head IsGood y q h)
      (sym (append_assoc (spelling x) (spellings p) rest) ∙ e
      ∙ append_assoc (spelling y) (spellings q) tail) in
      one_more f.0 (parts p q rest tail (All-tail IsGood x p g) (All-tail IsGood y q h) f.1)
    where
      one_more : x ≡ y
          → GoesOnBehind p q rest tail ⊎ ((behind : List Instruction) × (q ≡ p ++ behind))
          → GoesOnBehind (x ∷ p) (y ∷ q) rest tail
          ⊎ ((behind : List Instruction) × (y ∷ q ≡ (x ∷ p) ++ behind))
      one_more same (inl k) = inl
          (record {
            next = k.next;
            after = k.after;
            split = ap (λ z. z ∷ p) same ∙ ap (λ l. y ∷ l) k.split;
            bytes = k.bytes;
          })
      one_more same (inr k) = inr (k.0, ap (λ l. y ∷ l) k.1 ∙ ap (λ z. z ∷ p ++ k.0) (sym same))

  pub one_begins : OneBegins
  one_begins p q rest tail g h e = by_part (parts p q rest tail g h e)
    where
      by_part : GoesOnBehind p q rest tail ⊎ ((behind : List Instruction) × (q ≡ p ++ behind))
          → ((behind : List Instruction) × (q ≡ p ++ behind))
          ⊎ ((behind : List Instruction) × (p ≡ q ++ behind))
      by_part (inl k) = inr (k.next ∷ k.after, k.split)
      by_part (inr k) = inl k

pub refused_behind : OneAnswer → ((limit : ℕ) → Begun limit []) → OneFront → SequenceGoesOn
    → RefusedBehind
refused_behind one nothing front goes loading before others policy limits bytes old there p from
    other after at r pair known same alike few allowed faultless taken refused n m =
    let q = refused.instructions in
    let a = consumed old bytes (spellings p) there known taken in
    let c = consumed other bytes (spellings q) refused.here same refused.bytes in
    by_part c.0 a.0 c.1 (parts front p q a.0 c.0 (all_good limits p allowed)
    (all_good limits q refused.admitted) (sym a.2 ∙ c.2))
  where
    by_part : (tail rest : List ℕ) → refused.here.left ≡ Some tail
        → GoesOnBehind p refused.instructions rest tail
        ⊎ ((behind : List Instruction) × (refused.instructions ≡ p ++ behind))
        → (behind : List Instruction) × (refused.instructions ≡ p ++ behind)
    by_part tail rest is (inl g) = absurd (not_why one nothing front goes limits g allowed
        (λ q i more e f. faultless q i more e r
        (same_runs loading.old_strings q
        (λ at_i. HasRunFault policy limits q (everyone at_i) i r) loading.memo others before
        (sym alike) f))
        from few refused.place is n m refused.why)
    by_part tail rest is (inr k) = k
