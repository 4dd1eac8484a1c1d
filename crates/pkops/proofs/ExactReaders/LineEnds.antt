-- Where a line ends.
use Rattle.std.proofs.Common.{◌≡◌, ◌≢◌, ◌⊎◌, ℕ, true, false, eqb, List, [], ◌∷◌, ◌++◌, length, refl}
use Rattle.std.proofs.Common.{ap, arith, inl, inr}
use Rattle.std.specs.List.{AllByRecursion, position_or_len}
use Rattle.std.proofs.lemmas.Bool.{eqb-true, eqb-false}

abbrev pub Clean : List ℕ → Type 0
Clean text = AllByRecursion (λ byte. byte ≢ 10) text

abbrev pub end_of : List ℕ → ℕ
end_of bytes = position_or_len (λ byte. eqb byte 10) bytes

not_ten : (x : ℕ) → x ≢ 10 → eqb x 10 ≡ false
not_ten x h = elim (eqb x 10) as (λ v. eqb x 10 ≡ v
    → eqb x 10 ≡ false) [ true ↦ λ e. absurd (h (eqb-true x 10 e)) | false ↦ λ e. e ] refl

pub end_at : (a rest : List ℕ) → Clean a → end_of (a ++ 10 ∷ rest) ≡ length a
end_at [] rest h = refl
end_at (x ∷ a) rest h = rw (not_ten x h.0, end_at a rest h.1) (omega arith)

pub no_end : (a : List ℕ) → Clean a → end_of a ≡ length a
no_end [] h = refl
no_end (x ∷ a) h = rw (not_ten x h.0, no_end a h.1) (omega arith)

-- a line and what is after it
pub record IsSplit (bytes text rest : List ℕ) : Type 0 where
  pub clean : Clean text
  pub parts : bytes ≡ (text ++ 10 ∷ []) ++ rest
  pub place : end_of bytes ≡ length text

abbrev Splits : List ℕ → Type 0
Splits bytes = (text : List ℕ) × (rest : List ℕ) × IsSplit bytes text rest

split_cons : (x : ℕ) (bytes : List ℕ) → eqb x 10 ≡ false → Splits bytes → Splits (x ∷ bytes)
split_cons x bytes e s = (
  x ∷ s.0,
  s.1,
  record {
    clean = (eqb-false x 10 e, s.2.clean);
    parts = ap (λ (t : List ℕ). x ∷ t) s.2.parts;
    place = let ih = s.2.place in rw e (omega (arith, ih));
  },
)

split_now : (x : ℕ) (bytes : List ℕ) → eqb x 10 ≡ true → Splits (x ∷ bytes)
split_now x bytes e = (
  [],
  bytes,
  record { clean = tt; parts = ap (λ (y : ℕ). y ∷ bytes) (eqb-true x 10 e); place = rw e refl },
)

pub either_end : (bytes : List ℕ) → Splits bytes ⊎ Clean bytes
either_end [] = inr tt
either_end (x ∷ bytes) =
    elim (eqb x 10) as (λ v. eqb x 10 ≡ v → Splits (x ∷ bytes) ⊎ Clean (x ∷ bytes)) [
      | true ↦ λ e. inl (split_now x bytes e)
      | false ↦ λ e.
          elim (either_end bytes) [
            | inl s ↦ inl (split_cons x bytes e s)
            | inr c ↦ inr (eqb-false x 10 e, c)
          ]
    ] refl
