-- The new numbers of the memo writes that stay.
use Rattle.std.proofs.Common.{◌≡◌, ℕ, zero, suc, ◌<◌, ◌≤◌, Bool, true, false, cond, List, [], ◌∷◌}
use Rattle.std.proofs.Common.{length, Option, inl, inr, refl, ap, subst, arith}
use Rattle.std.proofs.lemmas.Bool.{cases_eq}
use Rattle.pkops.specs.Spelling.{Instruction}
use Rattle.pkops.specs.Operands.{memo_number}
use Rattle.pkstack.specs.declared.Move.TheVariants.{Stores}
use Rattle.pkmachine.specs.Effects.{Effect, Moves, effect_of}
use Rattle.pkopt.specs.Writers.{Writes, wrote, after, is_read, new_number, after_all}

wrote_le : (e : Effect) (n : ℕ) (ws : Writes) → length ws ≤ length (wrote e n ws)
wrote_le (Moves Stores) n ws = omega arith
wrote_le e n ws = omega arith

-- an instruction takes no write away
pub after_le : (i : Instruction) (ws : Writes) → length ws ≤ length (after i ws)
after_le i ws = wrote_le (effect_of i.op) (memo_number i) ws

pub after_all_le : (is : List Instruction) (ws : Writes) → length ws ≤ length (after_all is ws)
after_all_le [] ws = omega arith
after_all_le (i ∷ is) ws = let a = after_le i ws in let b = after_all_le is (after i ws) in
    omega (arith, a, b)

module _ (vs : List (Option ℕ)) where
  pub new_step : (w : ℕ) (b : Bool) → is_read w vs ≡ b
      → new_number vs (suc w) ≡ cond b (suc (new_number vs w)) (new_number vs w)
  new_step w b e = ap (λ b. cond b (suc (new_number vs w)) (new_number vs w)) e

  pub new_more : (w : ℕ) (b : Bool) → is_read w vs ≡ b → new_number vs w ≤ new_number vs (suc w)
  new_more w true e = let h = new_step w true e in omega (arith, h)
  new_more w false e = let h = new_step w false e in omega (arith, h)

  new_least_at : (v w : ℕ) (b : Bool) → is_read w vs ≡ b → v < suc w → is_read v vs ≡ true
      → (v < w → new_number vs v < new_number vs w) → new_number vs v < new_number vs (suc w)
  new_least_at v w b r lt e on = elim (cases_eq v w) [
    | inl q ↦ let h = new_step w true (subst (λ n. is_read n vs ≡ true) q e) in
        let g : new_number vs v ≡ new_number vs w = ap (new_number vs) q in omega (arith, h, g)
    | inr q ↦ let h = new_more w b r in let g : new_number vs v < new_number vs w =
        on (omega (arith, lt, q)) in omega (arith, h, g)
  ]

  -- the number of a write that is read is below those of later ones
  pub new_least : (v w : ℕ) → v < w → is_read v vs ≡ true → new_number vs v < new_number vs w
  new_least v zero lt e = absurd (omega (arith, lt))
  new_least v (suc w) lt e = new_least_at v w (is_read w vs) refl lt e (λ g. new_least v w g e)

  new_up_to_at : (v w : ℕ) → v ≤ suc w → (v ≤ w → new_number vs v ≤ new_number vs w)
      → new_number vs v ≤ new_number vs (suc w)
  new_up_to_at v w le on = elim (cases_eq v (suc w)) [
    | inl q ↦ let g : new_number vs v ≡ new_number vs (suc w) = ap (new_number vs) q in
        omega (arith, g)
    | inr q ↦ let h = new_more w (is_read w vs) refl in let g : new_number vs v ≤ new_number vs w =
        on (omega (arith, le, q)) in omega (arith, h, g)
  ]

  pub new_up_to : (v w : ℕ) → v ≤ w → new_number vs v ≤ new_number vs w
  new_up_to zero zero le = omega arith
  new_up_to (suc v) zero le = absurd (omega (arith, le))
  new_up_to v (suc w) le = new_up_to_at v w le (λ g. new_up_to v w g)
