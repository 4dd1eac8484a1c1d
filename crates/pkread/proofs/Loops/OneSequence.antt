-- Bytes have one sequence of instructions at their front.
use Rattle.std.proofs.Common.{◌≡◌, ◌≢◌, ℕ, ◌≤◌, List, [], ◌∷◌, ◌++◌, length, inl, inr, refl, sym}
use Rattle.std.proofs.Common.{ap, subst, ◌∙◌, arith, append_assoc, All}
use Rattle.std.proofs.lemmas.Bool.{cases_lt}
use Rattle.std.proofs.lemmas.List.Elements.{All-head, All-tail}
use Rattle.pkops.specs.Contents.{IsGood}
use Rattle.pkops.specs.Scans.{Spells}
use Rattle.pkops.specs.Spelling.{Instruction, spelling}
use Rattle.pkops.specs.declared.Op.{Op}
use Rattle.pkops.specs.declared.Op.TheVariants.{Stop}
use Rattle.pkread.specs.Admission.{IsAllowedBy}
use Rattle.pkread.specs.Sequence.{NoStop, spellings}
use Rattle.pkread.specs.Sequences.{GoesOnBehind, OneSequence, SequenceGoesOn}

abbrev pub OneSpelling : Type 0
OneSpelling = (i j : Instruction) (front more : List ℕ) → Spells i front → Spells j (front ++ more)
    → (more ≡ []) × (i ≡ j)

-- the shorter of two fronts is a front of the other
split : (a b c d : List ℕ) → a ++ b ≡ c ++ d → length a ≤ length c
    → (more : List ℕ) × (c ≡ a ++ more) × (b ≡ more ++ d)
split [] b c d e le = (c, refl, e)
split (x ∷ a) b [] d e le = absurd (omega arith)
split (x ∷ a) b (y ∷ c) d e le =
    let same : x ≡ y = cc in
    let tail : a ++ b ≡ c ++ d = cc in
    let r = split a b c d tail (omega arith) in
    (r.0, ap (λ z. z ∷ c) (sym same) ∙ ap (λ z. x ∷ z) r.1, r.2)

module _ (one : OneSpelling) where
  shorter : (i j : Instruction) (as' bs : List ℕ) → IsGood i → IsGood j
      → spelling i ++ as' ≡ spelling j ++ bs → length (spelling i) ≤ length (spelling j)
      → (i ≡ j) × (as' ≡ bs)
  shorter i j as' bs g h e le =
      let r = split (spelling i) as' (spelling j) bs e le in
      let same = one i j (spelling i) r.0 (record { spelled = refl; good = g })
      (record { spelled = sym r.1; good = h }) in
      (same.1, r.2 ∙ ap (λ z. z ++ bs) same.0)

  -- the instruction at the front, and what stands behind it
  pub one_front : (i j : Instruction) (as' bs : List ℕ) → IsGood i → IsGood j
      → spelling i ++ as' ≡ spelling j ++ bs → (i ≡ j) × (as' ≡ bs)
  one_front i j as' bs g h e =
      elim (cases_lt (length (spelling j)) (length (spelling i))) [
        | inl lt ↦ let r = shorter j i bs as' h g (sym e) (omega (arith, lt)) in (sym r.0, sym r.1)
        | inr le ↦ shorter i j as' bs g h e (omega (arith, le))
      ]

  first_of : (i : Instruction) (p : List Instruction) (rest : List ℕ)
      → spellings (i ∷ p) ++ rest ≡ spelling i ++ (spellings p ++ rest)
  first_of i p rest = append_assoc (spelling i) (spellings p) rest

  module _ (limit other : Op → ℕ) where
    -- two sequences that spell the front of the same bytes
    same : (p q : List Instruction) (i j : Instruction) (rest more : List ℕ)
        → All (IsAllowedBy limit) (p ++ i ∷ []) → All (IsAllowedBy other) (q ++ j ∷ [])
        → i.op ≡ Stop → j.op ≡ Stop → NoStop p → NoStop q
        → spellings (p ++ i ∷ []) ++ rest ≡ spellings (q ++ j ∷ []) ++ more
        → (p ++ i ∷ [] ≡ q ++ j ∷ []) × (rest ≡ more)
    same [] [] i j rest more g h s t a b e =
        let r = one_front i j rest more (All-head (IsAllowedBy limit) i [] g).good
        (All-head (IsAllowedBy other) j [] h).good
        (sym (first_of i [] rest) ∙ e ∙ first_of j [] more) in
        (ap (λ k. k ∷ []) r.0, r.1)
    same [] (k ∷ q) i j rest more g h s t a b e =
        let r = one_front i k _ _ (All-head (IsAllowedBy limit) i [] g).good
        (All-head (IsAllowedBy other) k _ h).good
        (sym (first_of i [] rest) ∙ e ∙ first_of k (q ++ j ∷ []) more) in
        absurd (All-head (λ i. i.op ≢ Stop) k q b (ap (λ (z : Instruction). z.op) (sym r.0) ∙ s))
    same (k ∷ p) [] i j rest more g h s t a b e =
        let r = one_front k j _ _ (All-head (IsAllowedBy limit) k _ g).good
        (All-head (IsAllowedBy other) j [] h).good
        (sym (first_of k (p ++ i ∷ []) rest) ∙ e ∙ first_of j [] more) in
        absurd (All-head (λ i. i.op ≢ Stop) k p a (ap (λ (z : Instruction). z.op) r.0 ∙ t))
    same (k ∷ p) (l ∷ q) i j rest more g h s t a b e =
        let r = one_front k l _ _ (All-head (IsAllowedBy limit) k _ g).good
        (All-head (IsAllowedBy other) l _ h).good
        (sym (first_of k (p ++ i ∷ []) rest) ∙ e ∙ first_of l (q ++ j ∷ []) more) in
        let tail = same p q i j rest more (All-tail (IsAllowedBy limit) k _ g)
        (All-tail (IsAllowedBy other) l _ h) s t (All-tail (λ i. i.op ≢ Stop) k p a)
        (All-tail (λ i. i.op ≢ Stop) l q b) r.1 in
        (ap (λ z. z ∷ p ++ i ∷ []) r.0 ∙ ap (λ z. l ∷ z) tail.0, tail.1)

    -- a sequence, and instructions that spell the front of its bytes, of which none is STOP
    behind : (p q : List Instruction) (i : Instruction) (rest more : List ℕ)
        → All (IsAllowedBy limit) (p ++ i ∷ []) → All (IsAllowedBy other) q → i.op ≡ Stop → NoStop q
        → spellings (p ++ i ∷ []) ++ rest ≡ spellings q ++ more
        → GoesOnBehind (p ++ i ∷ []) q rest more
    behind [] [] i rest more g h s b e =
        record { next = i; after = []; split = refl; bytes = sym e ∙ first_of i [] rest }
    behind (k ∷ p) [] i rest more g h s b e =
        record {
          next = k;
          after = p ++ i ∷ [];
          split = refl;
          bytes = sym e ∙ first_of k (p ++ i ∷ []) rest;
        }
    behind [] (l ∷ q) i rest more g h s b e =
        let r = one_front i l _ _ (All-head (IsAllowedBy limit) i [] g).good
        (All-head (IsAllowedBy other) l q h).good
        (sym (first_of i [] rest) ∙ e ∙ first_of l q more) in
        absurd (All-head (λ i. i.op ≢ Stop) l q b (ap (λ (z : Instruction). z.op) (sym r.0) ∙ s))
    behind (k ∷ p) (l ∷ q) i rest more g h s b e =
        let r = one_front k l _ _ (All-head (IsAllowedBy limit) k _ g).good
        (All-head (IsAllowedBy other) l q h).good
        (sym (first_of k (p ++ i ∷ []) rest) ∙ e ∙ first_of l q more) in
        let t = behind p q i rest more (All-tail (IsAllowedBy limit) k _ g)
        (All-tail (IsAllowedBy other) l q h) s (All-tail (λ i. i.op ≢ Stop) l q b) r.1 in
        record {
          next = t.next;
          after = t.after;
          split = ap (λ z. z ∷ p ++ i ∷ []) r.0 ∙ ap (λ z. l ∷ z) t.split;
          bytes = t.bytes;
        }

pub one_sequence : OneSpelling → OneSequence
one_sequence one limit other p q rest more g h e =
    let (front, last, is, stop, none) = g.stops in
    let (back, end, is', stop', none') = h.stops in
    let r = same one limit other front back last end rest more
    (subst (All (IsAllowedBy limit)) is g.each) (subst (All (IsAllowedBy other)) is' h.each)
    stop stop' none none'
    (ap (λ z. spellings z ++ rest) (sym is) ∙ e ∙ ap (λ z. spellings z ++ more) is') in
    (is ∙ r.0 ∙ sym is', r.1)

pub sequence_goes_on : OneSpelling → SequenceGoesOn
sequence_goes_on one limit other p q rest more g h none e =
    let (front, last, is, stop, none') = g.stops in
    subst (λ z. GoesOnBehind z q rest more) (sym is)
    (behind one limit other front q last rest more
    (subst (All (IsAllowedBy limit)) is g.each) h stop none
    (ap (λ z. spellings z ++ rest) (sym is) ∙ e))
