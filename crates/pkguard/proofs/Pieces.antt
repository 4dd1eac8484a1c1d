-- What is written, piece by piece.
use Rattle.std.proofs.Common.{◌≡◌, ℕ, ◌+◌, ◌<◌, List, [], ◌∷◌, ◌++◌, ◌∙◌, Some, refl, sym, ap}
use Rattle.std.proofs.Common.{subst, take, drop, length, get_or, add-one, append-nil}
use Rattle.std.proofs.Common.{append_assoc, drop-cons, zero, suc}
use Rattle.std.specs.List.{flat_map, slice_get}
use Rattle.std.proofs.lemmas.Grind.{flat_map-append}
use Rattle.toml.specs.View.{view, items_view}
use Rattle.toml.specs.declared.Value.{Value}
use Rattle.pkimport.specs.Import.{Asked}
use Rattle.pkguard.specs.Encoding.{encoded, encoded_all}
use Rattle.pkguard.specs.Listed.{pair_in, pairs_among}
use Rattle.pkguard.specs.Private.Written.{IsWritten}

-- two pieces are one
pub written_both :
    (front xs ys before after : List ℕ) (next : ℕ)
    → IsWritten ((front ++ xs) ++ ys) before after next
    → IsWritten (front ++ (xs ++ ys)) before after next
written_both front xs ys before after next h =
    subst (λ bytes. IsWritten bytes before after next) (append_assoc front xs ys) h

-- one element more
pub flat_map_next :
    {A : Type 0} (f : A → List ℕ) (xs : List A) (n : ℕ) (x : A)
    → Some x ≡ slice_get xs n → flat_map f (take (n + 1) xs) ≡ flat_map f (take n xs) ++ f x
flat_map_next {A = A} f xs n x e = rw add-one (go xs n e)
  where
    go :
        (xs : List A) (n : ℕ)
        → Some x ≡ slice_get xs n → flat_map f (take (suc n) xs) ≡ flat_map f (take n xs) ++ f x
    go [] n e = cc
    go (y ∷ ys) zero e = let same : x ≡ y = cc in rw (same, append-nil (f y)) refl
    go (y ∷ ys) (suc n) e =
        ap (λ l. f y ++ l) (go ys n e) ∙ sym (append_assoc (f y) (flat_map f (take n ys)) (f x))

-- one part of the pairs is written, and the others are left
pub encoded_more :
    (done all : List ℕ) (xs ys : List Asked)
    → done ++ encoded_all (xs ++ ys) ≡ all → (done ++ encoded_all xs) ++ encoded_all ys ≡ all
encoded_more done all xs ys h =
    append_assoc done (encoded_all xs) (encoded_all ys)
    ∙ ap (λ l. done ++ l) (sym (flat_map-append encoded xs ys)) ∙ h

-- one value more of an array
pub pairs_step :
    (m : List ℕ) (values : List Value) (i : ℕ) (d : Value) → i < length values
    → pairs_among m (items_view (drop i values)) ≡ pair_in m (view (get_or values i d))
    ++ pairs_among m (items_view (drop (i + 1) values))
pairs_step m values i d inside = rw (add-one, drop-cons values i d) refl

pub each_step :
    (m : List ℕ) (values : List Value) (i : ℕ) (d x : Value) (done all : List ℕ)
    → i < length values → get_or values i d ≡ x
    → done ++ encoded_all (pairs_among m (items_view (drop i values))) ≡ all
    → (done ++ encoded_all (pair_in m (view x)))
    ++ encoded_all (pairs_among m (items_view (drop (i + 1) values))) ≡ all
each_step m values i d x done all inside is h =
    encoded_more done all (pair_in m (view x)) (pairs_among m (items_view (drop (i + 1) values)))
    (rw is at (rw (pairs_step m values i d inside) at h))
