-- Texts that grow at their end.
use Rattle.std.proofs.Common.{◌≡◌, ℕ, ◌+◌, List, [], ◌∷◌, ◌++◌, ◌∙◌, Some, take, refl, sym, ap}
use Rattle.std.proofs.Common.{add-one, append-nil, append_assoc, zero, suc}
use Rattle.std.specs.List.{flat_map, slice_get}
use Rattle.hex.specs.Hex.{encode_with}
use Rattle.pkprint.specs.Listing.{indent}

pub encode_with-append : (t xs ys : List ℕ) → encode_with t (xs ++ ys) ≡ encode_with t xs
    ++ encode_with t ys
unfolding encode_with
encode_with-append t [] ys = refl
encode_with-append t (x ∷ xs) ys = rw (encode_with-append t xs ys)

-- one mark more
pub indent_more : (n : ℕ) → indent (n + 1) ≡ indent n ++ (32 ∷ 32 ∷ [])
unfolding indent
indent_more n = rw add-one (go n)
  where
    go : (n : ℕ) → 32 ∷ 32 ∷ indent n ≡ indent n ++ (32 ∷ 32 ∷ [])
    go zero = refl
    go (suc n) = ap (λ (xs : List ℕ). 32 ∷ 32 ∷ xs) (go n)

-- one element more
pub flat_map_next : {A : Type 0} (f : A → List ℕ) (xs : List A) (n : ℕ) (x : A)
    → Some x ≡ slice_get xs n → flat_map f (take (n + 1) xs) ≡ flat_map f (take n xs) ++ f x
flat_map_next {A = A} f xs n x e = rw add-one (go xs n e)
  where
    go : (xs : List A) (n : ℕ) → Some x ≡ slice_get xs n
        → flat_map f (take (suc n) xs) ≡ flat_map f (take n xs) ++ f x
    go [] n e = cc
    go (y ∷ ys) zero e = let same : x ≡ y = cc in rw (same, append-nil (f y)) refl
    go (y ∷ ys) (suc n) e = ap (λ l. f y ++ l) (go ys n e)
        ∙ sym (append_assoc (f y) (flat_map f (take n ys)) (f x))
