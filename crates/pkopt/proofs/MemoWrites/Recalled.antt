-- What a memo says under a number once something is stored in it.
use Rattle.std.proofs.Common.{◌≡◌, ℕ, suc, ◌<◌, false, cond, List, [], ◌∷◌, length, Option, Some}
use Rattle.std.proofs.Common.{None, refl, sym, ap, ◌∙◌, arith}
use Rattle.std.specs.Prelude.{◌≢◌}
use Rattle.std.specs.Ordering.{nat_cmp, match_ordering, is_eq, MatchOrdering}
use Rattle.std.specs.declared.cmp.Ordering.{Ordering}
use Rattle.std.specs.declared.cmp.Ordering.TheVariants.{Less, Equal, Greater}
use Rattle.std.proofs.lemmas.Cmp.{ranked}
use Rattle.std.specs.BTreeMap.{insert_entry}
use Rattle.pkstack.specs.Shape.{recalled}
use Rattle.pkopt.specs.Private.Memories.{Above, Rising}
use Rattle.pkopt.specs.Writers.{more_if_none}

abbrev Ranked : ℕ → ℕ → Ordering → Type 0
Ranked n m o = (nat_cmp n m ≡ o) × MatchOrdering o (n < m) (n ≡ m) (m < n)

rank : (n m : ℕ) (o : Ordering) → nat_cmp n m ≡ o → Ranked n m o
rank n m o e = (e, ranked n m o (sym e))

-- to be shown for each of the three ways
by_rank : (P : Ordering → Type 0) (n m : ℕ) → ((n < m) → nat_cmp n m ≡ Less → P Less)
    → ((n ≡ m) → nat_cmp n m ≡ Equal → P Equal) → ((m < n) → nat_cmp n m ≡ Greater → P Greater)
    → P (nat_cmp n m)
by_rank P n m l e g =
    elim (nat_cmp n m) as (λ o. Ranked n m o → P o) [
      | Less ↦ λ h. l h.1 h.0
      | Equal ↦ λ h. e h.1 h.0
      | Greater ↦ λ h. g h.1 h.0
    ] (rank n m (nat_cmp n m) refl)

equal : (n m : ℕ) → n ≡ m → nat_cmp n m ≡ Equal
equal n m e = by_rank (λ o. o ≡ Equal) n m (λ h c. absurd (omega (arith, h, e))) (λ h c. refl)
    (λ h c. absurd (omega (arith, h, e)))

apart : (n m : ℕ) → n ≢ m → is_eq (nat_cmp n m) ≡ false
apart n m e = by_rank (λ o. is_eq o ≡ false) n m (λ h c. refl) (λ h c. absurd (e h)) (λ h c. refl)

module _ {A : Type 0} where
  -- behind a step of the insertion
  abbrev put : ℕ → A → ℕ × A → List (ℕ × A) → Ordering → List (ℕ × A)
  put n x e es o =
      match_ordering o ((n, x) ∷ e ∷ es) ((e.0, x) ∷ es) (e ∷ insert_entry nat_cmp es n x)

  recalled_head : (n m : ℕ) (x : A) (es : List (ℕ × A)) → n ≡ m → recalled n ((m, x) ∷ es) ≡ Some x
  recalled_head n m x es e = ap (λ o. cond (is_eq o) (Some x) (recalled n es)) (equal n m e)

  recalled_tail : (n m : ℕ) (x : A) (es : List (ℕ × A)) → n ≢ m
      → recalled n ((m, x) ∷ es) ≡ recalled n es
  recalled_tail n m x es e = ap (λ b. cond b (Some x) (recalled n es)) (apart n m e)

  pub recalled_same : (n : ℕ) (x : A) (es : List (ℕ × A))
      → recalled n (insert_entry nat_cmp es n x) ≡ Some x
  recalled_same n x [] = recalled_head n n x [] refl
  recalled_same n x (e ∷ es) =
      by_rank (λ o. recalled n (put n x e es o) ≡ Some x) n e.0
      (λ h c. recalled_head n n x (e ∷ es) refl) (λ h c. recalled_head n e.0 x es h)
      (λ h c. recalled_tail n e.0 e.1 _ (λ q. omega (arith, h, q)) ∙ recalled_same n x es)

  recalled_step : (k : ℕ) (e : ℕ × A) (es fs : List (ℕ × A)) → recalled k es ≡ recalled k fs
      → recalled k (e ∷ es) ≡ recalled k (e ∷ fs)
  recalled_step k e es fs h = ap (λ r. cond (is_eq (nat_cmp k e.0)) (Some e.1) r) h

  pub recalled_other : (k n : ℕ) (x : A) (es : List (ℕ × A)) → k ≢ n
      → recalled k (insert_entry nat_cmp es n x) ≡ recalled k es
  recalled_other k n x [] ne = recalled_tail k n x [] ne
  recalled_other k n x (e ∷ es) ne =
      by_rank (λ o. recalled k (put n x e es o) ≡ recalled k (e ∷ es)) n e.0
      (λ h c. recalled_tail k n x (e ∷ es) ne)
      (λ h c. recalled_tail k e.0 x es (λ q. ne (q ∙ sym h))
      ∙ sym (recalled_tail k e.0 e.1 es (λ q. ne (q ∙ sym h))))
      (λ h c. recalled_step k e _ es (recalled_other k n x es ne))

  -- a number below all has none
  above_none : (n : ℕ) (es : List (ℕ × A)) → Above n es → recalled n es ≡ None
  above_none n [] h = refl
  above_none n (e ∷ es) h = recalled_tail n e.0 e.1 es (λ q. omega (arith, h.0, q))
      ∙ above_none n es h.1

  above_more : (n m : ℕ) (es : List (ℕ × A)) → n < m → Above m es → Above n es
  above_more n m [] lt h = tt
  above_more n m (e ∷ es) lt h = (omega (arith, lt, h.0), above_more n m es lt h.1)

  above_insert : (m n : ℕ) (x : A) (es : List (ℕ × A)) → m < n → Above m es
      → Above m (insert_entry nat_cmp es n x)
  above_insert m n x [] lt h = (lt, tt)
  above_insert m n x (e ∷ es) lt h =
      by_rank (λ o. Above m (put n x e es o)) n e.0
      (λ g c. (lt, h)) (λ g c. h) (λ g c. (h.0, above_insert m n x es lt h.1))

  pub rising_insert : (n : ℕ) (x : A) (es : List (ℕ × A)) → Rising es
      → Rising (insert_entry nat_cmp es n x)
  rising_insert n x [] h = (tt, tt)
  rising_insert n x (e ∷ es) h =
      by_rank (λ o. Rising (put n x e es o)) n e.0
      (λ g c. ((g, above_more n e.0 es g h.0), h)) (λ g c. h)
      (λ g c. (above_insert e.0 n x es g h.0, rising_insert n x es h.1))

  more_step : (o : Option A) (a b : ℕ) → a ≡ more_if_none o b → suc a ≡ more_if_none o (suc b)
  more_step None a b h = ap suc h
  more_step (Some x) a b h = ap suc h

  pub length_insert : (n : ℕ) (x : A) (es : List (ℕ × A)) → Rising es
      → length (insert_entry nat_cmp es n x) ≡ more_if_none (recalled n es) (length es)
  length_insert n x [] h = refl
  length_insert n x (e ∷ es) h =
      by_rank
      (λ o. length (put n x e es o) ≡ more_if_none (recalled n (e ∷ es)) (suc (length es))) n e.0
      (λ g c.
      sym (ap (λ r. more_if_none r (suc (length es)))
      (recalled_tail n e.0 e.1 es (λ q. omega (arith, g, q))
      ∙ above_none n es (above_more n e.0 es g h.0))))
      (λ g c. sym (ap (λ r. more_if_none r (suc (length es))) (recalled_head n e.0 e.1 es g)))
      (λ g c. more_step (recalled n es) _ _ (length_insert n x es h.1)
      ∙ sym (ap (λ r. more_if_none r (suc (length es)))
      (recalled_tail n e.0 e.1 es (λ q. omega (arith, g, q)))))

  -- a new number makes one more, whatever the order
  pub length_new : (n : ℕ) (x : A) (es : List (ℕ × A)) → recalled n es ≡ None
      → length (insert_entry nat_cmp es n x) ≡ suc (length es)
  length_new n x [] h = refl
  length_new n x (e ∷ es) h =
      by_rank (λ o. length (put n x e es o) ≡ suc (suc (length es))) n e.0
      (λ g c. refl) (λ g c. let k : Some e.1 ≡ None = sym (recalled_head n e.0 e.1 es g) ∙ h in cc)
      (λ g c. ap suc
      (length_new n x es (sym (recalled_tail n e.0 e.1 es (λ q. omega (arith, g, q))) ∙ h)))
