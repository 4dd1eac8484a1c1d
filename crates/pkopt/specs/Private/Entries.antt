-- An optional number in four bytes.
use Rattle.std.proofs.Common.{◌≡◌, ◌∙◌, ℕ, cond, nat_eq, Option, None, Some, ap, sym, inl, inr}
use Rattle.std.proofs.lemmas.Bool.Decides.{eqb_tells}

-- the number that a code stands for
abbrev pub number_held : ℕ → Option ℕ
number_held n = cond (nat_eq n 4294967295) None (Some n)

-- the code of a number
abbrev pub held : Option ℕ → ℕ
held None = 4294967295
held (Some n) = n

-- it stands for that number
held_back : (n : ℕ) → held (number_held n) ≡ n
held_back n = elim (eqb_tells n 4294967295) [
  | inl q ↦ ap (λ b. held (cond b None (Some n))) q.0 ∙ sym q.1
  | inr q ↦ ap (λ b. held (cond b None (Some n))) q.0
]

pub held_by : {A : Type 0} (f : ℕ → A) (n : ℕ) → f (held (number_held n)) ≡ f n
held_by f n = ap f (held_back n)
