-- When a limit is exceeded.
use Rattle.std.proofs.Common.{◌≡◌, ℕ, ◌<◌, ◌≤◌, ◌⊎◌, inl, inr, Bool, true, false, cond, ltb, length}
use Rattle.std.proofs.Common.{Result, Ok, Err, refl, ap, ltb-true}
use Rattle.std.specs.Prelude.{◌||◌}
use Rattle.std.proofs.lemmas.Bool.{lt-ltb, le-ltb}
use Rattle.pkops.specs.Limits.{Bounds}
use Rattle.pkmachine.specs.Knowledge.{Knowledge, Progress, Refusal, TooLarge, is_past, within}

or_left : (a b : Bool) → a ≡ true → (a || b) ≡ true
or_left true b e = refl
or_left false b e = cc

or_right : (a b : Bool) → b ≡ true → (a || b) ≡ true
or_right true b e = refl
or_right false b e = e

or_split : (a b : Bool) → (a || b) ≡ true → (a ≡ true) ⊎ (b ≡ true)
or_split true b e = inl refl
or_split false b e = inr e

-- a limit is exceeded
abbrev pub PastBy : Bounds → ℕ → Knowledge → Type 0
PastBy l n k = (l.stack < length k.entries) ⊎ ((l.memo < length k.memo) ⊎ (l.numbers < n))

past : (l : Bounds) (n : ℕ) (k : Knowledge) → PastBy l n k → is_past l n k ≡ true
past l n k (inl h) = or_left _ _ (lt-ltb l.stack (length k.entries) h)
past l n k (inr (inl h)) = or_right (ltb l.stack (length k.entries)) _
    (or_left _ _ (lt-ltb l.memo (length k.memo) h))
past l n k (inr (inr h)) = or_right (ltb l.stack (length k.entries)) _
    (or_right (ltb l.memo (length k.memo)) _ (lt-ltb l.numbers n h))

pub past_by : (l : Bounds) (n : ℕ) (k : Knowledge) → is_past l n k ≡ true → PastBy l n k
past_by l n k e =
    elim (or_split (ltb l.stack (length k.entries)) _ e) [
      | inl a ↦ inl (ltb-true _ _ a)
      | inr b ↦
          elim (or_split (ltb l.memo (length k.memo)) _ b) [
            | inl c ↦ inr (inl (ltb-true _ _ c))
            | inr d ↦ inr (inr (ltb-true _ _ d))
          ]
    ]

pub within_past : (l : Bounds) (n : ℕ) (q : Progress) → PastBy l n q.after
    → within l n q ≡ Err TooLarge
within_past l n q h = ap (λ b. cond {A = Result Progress Refusal} b (Err TooLarge) (Ok q))
    (past l n q.after h)

pub within_fits : (l : Bounds) (n : ℕ) (q : Progress) → length q.after.entries ≤ l.stack
    → length q.after.memo ≤ l.memo → n ≤ l.numbers → within l n q ≡ Ok q
within_fits l n q g h i =
    rw (
      le-ltb l.stack (length q.after.entries) g,
      le-ltb l.memo (length q.after.memo) h,
      le-ltb l.numbers n i,
    ) refl
