-- A fold that keeps whether each byte so far passes a test, and tests of both ends.
use Rattle.std.proofs.Common.{◌≡◌, Bool, true, false, ℕ, List, [], ◌∷◌, ◌&&◌, ◌≤◌, ap, sym, ◌∙◌}
use Rattle.std.proofs.Common.{arith, drop, refl, suc, take, zero, fold, take-append-drop}
use Rattle.std.specs.List.{list_all}
use Rattle.std.proofs.Math.Bool.{and-true, and_assoc}
use Rattle.std.proofs.lemmas.List.Folds.{list_all-append}

pub fold_all : (test : ℕ → Bool) (so_far : Bool) (bytes : List ℕ)
    → fold (λ good byte. good && test byte) so_far bytes ≡ (so_far && list_all test bytes)
fold_all test so_far [] = sym (and-true so_far)
fold_all test so_far (byte ∷ bytes) = fold_all test (so_far && test byte) bytes
    ∙ and_assoc so_far (test byte) (list_all test bytes)

-- a test that passes on all elements passes on the first ones
all_of_front : (test : ℕ → Bool) (first : ℕ) (bytes : List ℕ)
    → (list_all test (take first bytes) && list_all test bytes) ≡ list_all test bytes
all_of_front test zero bytes = refl
all_of_front test (suc first) [] = refl
all_of_front test (suc first) (byte ∷ bytes) = by_test (test byte) (all_of_front test first bytes)
  where
    by_test : (passes : Bool)
        → (list_all test (take first bytes) && list_all test bytes) ≡ list_all test bytes
        → ((passes && list_all test (take first bytes)) && (passes && list_all test bytes))
        ≡ (passes && list_all test bytes)
    by_test true rest = rest
    by_test false rest = refl

-- a test passes on all elements exactly if it does on the first ones and on the last, where these
-- are all
pub all_of_ends : (test : ℕ → Bool) (first from : ℕ) (bytes : List ℕ) → from ≤ first
    → (list_all test (take first bytes) && list_all test (drop from bytes)) ≡ list_all test bytes
all_of_ends test first zero bytes within = all_of_front test first bytes
all_of_ends test zero (suc from) bytes within = absurd (omega (arith, within))
all_of_ends test (suc first) (suc from) [] within = refl
all_of_ends test (suc first) (suc from) (byte ∷ bytes) within =
    and_assoc (test byte) (list_all test (take first bytes)) (list_all test (drop from bytes))
    ∙ ap (λ rest. test byte && rest)
    (all_of_ends test first from bytes (omega (arith, within)))

-- a test passes on all elements exactly if it does on the first ones and on the others
pub all_of_parts : (test : ℕ → Bool) (first : ℕ) (bytes : List ℕ)
    → list_all test bytes ≡ (list_all test (take first bytes) && list_all test (drop first bytes))
all_of_parts test first bytes =
    ap (list_all test) (sym (take-append-drop first bytes))
    ∙ list_all-append test (take first bytes) (drop first bytes)
