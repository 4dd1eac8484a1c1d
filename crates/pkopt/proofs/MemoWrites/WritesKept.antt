-- Which writes are read, and their new numbers, found read by read and write by write.
use Rattle.std.proofs.Common.{◌≡◌, ℕ, ◌<◌, ◌≤◌, Bool, true, false, cond, ◌||◌, List, [], ◌∷◌, ◌++◌}
use Rattle.std.proofs.Common.{length, get_or, set, Option, Some, None, inl, inr, refl, sym, ap, ◌∙◌}
use Rattle.std.specs.Prelude.{min}
use Rattle.std.proofs.lemmas.List.{get_or-set_other, get_or-set_same}
use Rattle.std.proofs.lemmas.Bool.{or_right}
use Rattle.std.proofs.Math.Bool.{or-false, or_assoc}
use Rattle.std.proofs.lemmas.Bool.Decides.{eqb_tells}
use Rattle.pkopt.specs.Private.Passes.{AreKept}
use Rattle.pkopt.specs.Writers.{is_this, is_read, new_number}

is_read-append : (w : ℕ) (vs us : List (Option ℕ))
    → is_read w (vs ++ us) ≡ is_read w vs || is_read w us
is_read-append w [] us = refl
is_read-append w (v ∷ vs) us = ap (λ b. is_this w v || b) (is_read-append w vs us)
    ∙ sym (or_assoc (is_this w v) (is_read w vs) (is_read w us))

is_read-one : (w : ℕ) (vs : List (Option ℕ)) (v : Option ℕ)
    → is_read w (vs ++ v ∷ []) ≡ is_read w vs || is_this w v
is_read-one w vs v = is_read-append w vs (v ∷ [])
    ∙ ap (λ b. is_read w vs || b) (or-false (is_this w v))

-- one more read reads no write
pub unmarked : (vs : List (Option ℕ)) (kept : List Bool) → AreKept vs kept
    → AreKept (vs ++ None ∷ []) kept
unmarked vs kept h = record {
  each = λ w. h.each w ∙ sym (is_read-one w vs None ∙ or-false (is_read w vs));
}

-- the write that it reads is marked
pub marked : (vs : List (Option ℕ)) (kept : List Bool) (j : ℕ) → j < length kept → AreKept vs kept
    → AreKept (vs ++ Some j ∷ []) (set kept j true)
marked vs kept j inside h = record {
  each = λ w. elim (eqb_tells w j) [
    | inl q ↦ ap (λ n. get_or (set kept j true) n false) q.1
        ∙ get_or-set_same kept j true false inside
        ∙ sym (is_read-one w vs (Some j) ∙ or_right (is_read w vs) _ q.0)
    | inr q ↦ get_or-set_other kept j w true false q.1 ∙ h.each w
        ∙ sym (is_read-one w vs (Some j) ∙ ap (λ b. is_read w vs || b) q.0
        ∙ or-false (is_read w vs))
  ];
}

-- a list with more room is the same
pub reached : (vs : List (Option ℕ)) (old new : List Bool)
    → ((w : ℕ) → get_or new w false ≡ get_or old w false) → AreKept vs old → AreKept vs new
reached vs old new same h = record { each = λ w. same w ∙ h.each w }

-- the new numbers of the first k writes, where the others have none yet
pub record NumbersTo (vs : List (Option ℕ)) (k limit next : ℕ)
    (numbers : List (Option ℕ)) : Type 0 where
  pub next_is : next ≡ min (new_number vs k) limit
  pub each : (w : ℕ) → w < k → get_or numbers w None
      ≡ cond (is_read w vs) (Some (min (new_number vs w) limit)) None
  pub others : (w : ℕ) → k ≤ w → get_or numbers w None ≡ None
