-- What `{:>5}` writes.
use Rattle.std.proofs.Common.{◌≡◌, ℕ, ◌-◌, List, [], ◌∷◌, ◌++◌, replicate, suc, zero, refl, ap}
use Rattle.std.proofs.Common.{append-nil, arith}
use Rattle.std.specs.Char.{encode_utf8}
use Rattle.std.specs.Fmt.{decimal, styled_decimal, format_spec, padded_integral, char_count}
use Rattle.std.specs.List.{repeat}
use Rattle.pkprint.specs.Listing.{position_text}

repeat_one : (n x : ℕ) → repeat n (x ∷ []) ≡ replicate n x
repeat_one zero x = refl
repeat_one (suc n) x = ap (λ (xs : List ℕ). x ∷ xs) (repeat_one n x)

-- fill before a text, with none after it
filled : (k m : ℕ) (xs : List ℕ) → k ≡ m → replicate k 32 ++ (xs ++ replicate (k - k) 32)
    ≡ replicate m 32 ++ xs
filled k m xs e = let none : k - k ≡ 0 = omega arith in rw (none, append-nil, e)

pub position_text-is : (n : ℕ) → styled_decimal (format_spec 32 3 0 5 18446744073709551615) n
    ≡ position_text n
unfolding padded_integral char_count encode_utf8
position_text-is n = simp (append-nil, repeat_one) (filled _ _ (decimal n) (omega arith))
