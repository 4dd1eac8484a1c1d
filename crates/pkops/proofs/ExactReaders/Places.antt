-- Where the first byte that passes a test stands, searched in pieces.
use Rattle.std.proofs.Common.{◌≡◌, ℕ, ◌+◌, ◌≤◌, Bool, true, false, List, [], ◌∷◌, ◌++◌}
use Rattle.std.proofs.Common.{Some, None, option_map, length, take, drop, refl, ap, sym, ◌∙◌, arith}
use Rattle.std.proofs.Common.{position, cond, take-append-drop}
use Rattle.std.specs.List.{position_from}
use Rattle.std.proofs.lemmas.Iterator.Adapters.{position_from-zero}
use Rattle.std.proofs.lemmas.List.{length-take-le}

-- the same place, counted from elsewhere
shift : (test : ℕ → Bool) (i n : ℕ) (bytes : List ℕ)
    → position_from test (n + i) bytes ≡ option_map (λ at. n + at) (position_from test i bytes)
shift test i n [] = refl
shift test i n (byte ∷ bytes) = by_test (test byte) (shift test (i + 1) n bytes)
  where
    by_test : (passes : Bool)
        → position_from test (n + (i + 1)) bytes
        ≡ option_map (λ at. n + at) (position_from test (i + 1) bytes)
        → cond passes (Some (n + i)) (position_from test (n + i + 1) bytes)
        ≡ option_map (λ at. n + at) (cond passes (Some i) (position_from test (i + 1) bytes))
    by_test true rest = refl
    by_test false rest =
        let e : n + i + 1 ≡ n + (i + 1) = omega arith in
        ap (λ from. position_from test from bytes) e ∙ rest

-- a search from a place on, by one from the front
pub position_at : (test : ℕ → Bool) (n : ℕ) (bytes : List ℕ)
    → position_from test n bytes ≡ option_map (λ at. n + at) (position test bytes)
position_at test n bytes =
    let same : n ≡ n + 0 = omega arith in
    ap (λ from. position_from test from bytes) same ∙ shift test 0 n bytes
    ∙ ap (option_map (λ at. n + at)) (sym (position_from-zero test bytes))

in_front : (test : ℕ → Bool) (i at : ℕ) (front rest : List ℕ)
    → position_from test i front ≡ Some at → position_from test i (front ++ rest) ≡ Some at
in_front test i at [] rest e = absurd cc
in_front test i at (byte ∷ front) rest e =
    by_test (test byte) (in_front test (i + 1) at front rest) e
  where
    by_test : (passes : Bool)
        → (position_from test (i + 1) front ≡ Some at
        → position_from test (i + 1) (front ++ rest) ≡ Some at)
        → cond passes (Some i) (position_from test (i + 1) front) ≡ Some at
        → cond passes (Some i) (position_from test (i + 1) (front ++ rest)) ≡ Some at
    by_test true later e = e
    by_test false later e = later e

behind : (test : ℕ → Bool) (i : ℕ) (front rest : List ℕ) → position_from test i front ≡ None
    → position_from test i (front ++ rest) ≡ position_from test (i + length front) rest
behind test i [] rest e =
    let same : i ≡ i + 0 = omega arith in ap (λ from. position_from test from rest) same
behind test i (byte ∷ front) rest e = by_test (test byte) (behind test (i + 1) front rest) e
  where
    by_test : (passes : Bool)
        → (position_from test (i + 1) front ≡ None → position_from test (i + 1) (front ++ rest)
        ≡ position_from test (i + 1 + length front) rest)
        → cond passes (Some i) (position_from test (i + 1) front) ≡ None
        → cond passes (Some i) (position_from test (i + 1) (front ++ rest))
        ≡ position_from test (i + length (byte ∷ front)) rest
    by_test true later e = absurd cc
    by_test false later e =
        let same : i + 1 + length front ≡ i + length (byte ∷ front) = omega arith in
        later e ∙ ap (λ from. position_from test from rest) same

-- a piece in which none passes, and one in which one does
pub piece_without : (test : ℕ → Bool) (i size : ℕ) (bytes : List ℕ) → size ≤ length bytes
    → position test (take size bytes) ≡ None
    → position_from test i bytes ≡ position_from test (i + size) (drop size bytes)
piece_without test i size bytes room none =
    ap (position_from test i) (sym (take-append-drop size bytes))
    ∙ behind test i (take size bytes) (drop size bytes)
    (position_at test i (take size bytes) ∙ ap (option_map (λ at. i + at)) none)
    ∙ ap (λ n. position_from test (i + n) (drop size bytes)) (length-take-le size bytes room)

pub piece_with : (test : ℕ → Bool) (i at size : ℕ) (bytes : List ℕ)
    → position test (take size bytes) ≡ Some at → position_from test i bytes ≡ Some (i + at)
piece_with test i at size bytes some =
    ap (position_from test i) (sym (take-append-drop size bytes))
    ∙ in_front test i (i + at) (take size bytes) (drop size bytes)
    (position_at test i (take size bytes) ∙ ap (option_map (λ at. i + at)) some)
