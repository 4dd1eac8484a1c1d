-- What sinks do with the bytes that they take, and that consecutive pieces add up.
use Rattle.std.proofs.Common.{◌≡◌, ℕ, zero, suc, ◌-◌, ◌<◌, cond, List, [], ◌∷◌, ◌++◌, length, drop}
use Rattle.std.proofs.Common.{Option, None, Some, refl, sym, ap, subst, ◌∙◌, arith, append_assoc}
use Rattle.std.proofs.Common.{append-nil, length-append}
use Rattle.std.specs.Prelude.{nat_le, slice_index_or}
use Rattle.std.specs.Io.KnownBytes.{Appends}
use Rattle.pkcheck.specs.Appended.{appends_none, appends_then}
use Rattle.pkopt.specs.declared.measure.Measure.{Measure}

-- the byte at a place if it is in this piece, which follows `before` bytes; else `otherwise`
abbrev pub byte_in : ℕ → ℕ → List ℕ → ℕ → ℕ
byte_in place before piece otherwise =
    cond (nat_le before place) (slice_index_or piece (place - before) otherwise) otherwise

-- the measure before the first byte
abbrev pub unmeasured : Measure
unmeasured = record { len = 0; first = 0; second = 0 }

-- the measure of these bytes
pub record Measures (m : Measure) (bytes : List ℕ) : Type 0 where
  pub count : m.len ≡ length bytes
  pub first_so : 0 < length bytes → slice_index_or bytes 0 0 ≡ m.first
  pub second_so : 1 < length bytes → slice_index_or bytes 1 0 ≡ m.second

-- a measure of any bytes became that of these and the piece
abbrev pub Counts : Measure → Measure → List ℕ → Type 0
Counts x y piece = (bytes : List ℕ) → Measures x bytes → Measures y (bytes ++ piece)

pub counts_none : (x : Measure) → Counts x x []
counts_none x = λ bytes h. subst (Measures x) (sym (append-nil bytes)) h

pub counts_more :
    (x y z : Measure) (a b : List ℕ) → Counts x y a → Counts y z b → Counts x z (a ++ b)
counts_more x y z a b f g = λ bytes h.
    subst (Measures z) (append_assoc bytes a b) (g (bytes ++ a) (f bytes h))

pub appended_none : (xs : List ℕ) → xs ≡ xs ++ []
appended_none xs = sym (append-nil xs)

pub appended_more : (xs ys zs a b : List ℕ) → ys ≡ xs ++ a → zs ≡ ys ++ b → zs ≡ xs ++ (a ++ b)
appended_more xs ys zs a b f g =
    g ∙ ap (λ (l : List ℕ). l ++ b) f ∙ append_assoc xs a b

-- the bytes except for the first `skip` were written
abbrev pub Drops : Option (List ℕ) → Option (List ℕ) → ℕ → ℕ → List ℕ → Type 0
Drops old new skip left bytes =
    (left ≡ skip - length bytes) × Appends old new (drop skip bytes)

drop_none : (skip : ℕ) → ◌≡◌ {A = List ℕ} (drop skip []) []
drop_none zero = refl
drop_none (suc skip) = refl

drop_both :
    (skip : ℕ) (a b : List ℕ) → drop skip (a ++ b) ≡ drop skip a ++ drop (skip - length a) b
drop_both skip [] b =
    let e : skip - 0 ≡ skip = omega arith in
    ap (λ (l : List ℕ). l ++ drop skip b) (sym (drop_none skip))
    ∙ ap (λ n. drop skip [] ++ drop n b) (sym e)
drop_both zero (x ∷ a) b =
    let e : 0 - suc (length a) ≡ 0 = omega arith in ap (λ n. (x ∷ a) ++ drop n b) (sym e)
drop_both (suc skip) (x ∷ a) b =
    let e : suc skip - suc (length a) ≡ skip - length a = omega arith in
    drop_both skip a b ∙ ap (λ n. drop skip a ++ drop n b) (sym e)

pub drops_none : (a : Option (List ℕ)) (skip : ℕ) → Drops a a skip skip []
drops_none a skip = (omega arith, subst (Appends a a) (sym (drop_none skip)) (appends_none a))

pub drops_more :
    (a b c : Option (List ℕ)) (n m k : ℕ) (xs ys : List ℕ)
    → Drops a b n m xs → Drops b c m k ys → Drops a c n k (xs ++ ys)
drops_more a b c n m k xs ys (e, f) (g, h) =
    let l = length-append xs ys in (
      omega (arith, e, g, l),
      subst (Appends a c) (ap (λ s. drop n xs ++ drop s ys) e ∙ sym (drop_both n xs ys))
          (appends_then a b c (drop n xs) (drop m ys) f h),
    )

-- what a writer holds, and then the bytes that were gathered for it
abbrev pub with_gathered : Option (List ℕ) → List ℕ → Option (List ℕ)
with_gathered None gathered = None
with_gathered (Some held) gathered = Some (held ++ gathered)
