-- Integers that 64 bits hold.
use Rattle.std.proofs.Common.{◌≡◌, ◌≢◌, ℕ, zero, suc, ◌+◌, ◌-◌, ◌*◌, ◌^◌, ◌<◌, ◌≤◌, Bool, true}
use Rattle.std.proofs.Common.{false, cond, List, [], ◌∷◌, length, drop, get_or, refl, ap, ◌∙◌}
use Rattle.std.proofs.Common.{arith, drop-cons}
use Rattle.std.specs.Prelude.{nat_eq, nat_le}
use Rattle.std.proofs.lemmas.Bool.{ne_eqb}
use Rattle.pkjson.specs.Integers.{decimal_after, natural, has_sign}

cond_least : (b : Bool) (n m : ℕ) → n ≤ m → n ≤ cond b n m
cond_least true n m h = omega arith
cond_least false n m h = h

pub decimal_least : (n : ℕ) (cs : List ℕ) → n ≤ decimal_after n cs
decimal_least n [] = omega arith
decimal_least n (c ∷ cs) = cond_least (nat_eq c 76) n _
    (omega (arith, decimal_least (n * 10 + (c - 48)) cs))

decimal_step : (n c : ℕ) (cs : List ℕ) → c ≢ 76
    → decimal_after n (c ∷ cs) ≡ decimal_after (n * 10 + (c - 48)) cs
decimal_step n c cs h = ap (λ b. cond b n (decimal_after (n * 10 + (c - 48)) cs)) (ne_eqb c 76 h)

pub decimal_large : (n : ℕ) (ds : List ℕ) (i : ℕ) → i < length ds → get_or ds i 0 ≢ 76
    → 922337203685477580 < n → 2 ^ 63 < decimal_after n (drop i ds)
decimal_large n ds i l h g =
    let e : decimal_after n (drop i ds) ≡ decimal_after (n * 10 + (get_or ds i 0 - 48))
    (drop (suc i) ds) = ap (decimal_after n) (drop-cons ds i 0 l)
    ∙ decimal_step n (get_or ds i 0) (drop (suc i) ds) h in
    omega (arith, e, g, decimal_least (n * 10 + (get_or ds i 0 - 48)) (drop (suc i) ds))

pub has_sign_last : (bs : List ℕ) → 0 < length bs
    → has_sign bs ≡ nat_le 128 (get_or bs (length bs - 1) 0)
has_sign_last [] h = absurd (omega arith)
has_sign_last (b ∷ []) h = refl
has_sign_last (b ∷ c ∷ bs) h = let e : length (b ∷ c ∷ bs) - 1
    ≡ suc (length (c ∷ bs) - 1) = omega arith in
    rw e (has_sign_last (c ∷ bs) (omega arith))

natural_least : (flip : Bool) (b : ℕ) (bs : List ℕ) → natural flip bs * 256 ≤ natural flip (b ∷ bs)
natural_least flip b bs = omega arith

pub natural_part : (flip : Bool) (bs : List ℕ) (k : ℕ) → 0 < k → k ≤ length bs
    → natural flip (drop k bs) * 256 ≤ natural flip bs
natural_part flip (b ∷ bs) (suc zero) l h = natural_least flip b bs
natural_part flip (b ∷ bs) (suc (suc k)) l h = omega
    (arith, natural_part flip bs (suc k) (omega arith) (omega (arith, h)), natural_least flip b bs)
natural_part flip bs k l h = absurd (omega arith)
