-- Texts in one buffer: how to append one, and how to find one by its number.
use Rattle.std.proofs.Common.{◌≡◌, ℕ, zero, suc, ◌+◌, ◌-◌, ◌<◌, ◌≤◌, List, [], ◌∷◌, ◌++◌, length}
use Rattle.std.proofs.Common.{take, drop, get_or, refl, sym, ap, subst, ◌∙◌, arith, append-nil}
use Rattle.std.proofs.Common.{length-append}
use Rattle.std.specs.List.{concat}
use Rattle.std.specs.Str.{IsUtf8}
use Rattle.std.proofs.lemmas.List.Folds.{concat-append}
use Rattle.std.proofs.Math.Seq.{drop-append_seam, take-append_seam, drop-append-add}
use Rattle.pkimport.specs.Private.Joined.{AreJoined, AreUtf8, cut, ends_of}

cut_ends : (k : ℕ) (ts : List (List ℕ)) → cut k (ends_of k ts) (concat ts) ≡ ts
cut_ends k [] = refl
cut_ends k (t ∷ ts) =
    let n : (k + length t) - k ≡ length t = omega arith in
    rw (n, take-append_seam t (concat ts), drop-append_seam t (concat ts))
    (ap (λ us. t ∷ us) (cut_ends (k + length t) ts))

-- the texts of a buffer are the ones cut from it
pub cut_joined : (ts : List (List ℕ)) (ends bytes : List ℕ) → AreJoined ts ends bytes
    → cut 0 ends bytes ≡ ts
cut_joined ts ends bytes j = rw (j.ends_are, j.bytes_are) (cut_ends 0 ts)

pub joined_cut : (ts : List (List ℕ)) (ends bytes : List ℕ) → AreJoined ts ends bytes
    → AreJoined (cut 0 ends bytes) ends bytes
joined_cut ts ends bytes j = subst (λ us. AreJoined us ends bytes)
    (sym (cut_joined ts ends bytes j)) j

length_ends : (k : ℕ) (ts : List (List ℕ)) → length (ends_of k ts) ≡ length ts
length_ends k [] = refl
length_ends k (t ∷ ts) = ap suc (length_ends (k + length t) ts)

pub how_many : (ts : List (List ℕ)) (ends bytes : List ℕ) → AreJoined ts ends bytes
    → length ends ≡ length ts
how_many ts ends bytes j = ap length j.ends_are ∙ length_ends 0 ts

-- ---- one more text

ends_more : (k : ℕ) (ts : List (List ℕ)) (t : List ℕ) (n : ℕ)
    → n ≡ k + length (concat ts) + length t → ends_of k (ts ++ t ∷ []) ≡ ends_of k ts ++ n ∷ []
ends_more k [] t n e = let f : k + length t ≡ n = omega (arith, e) in ap (λ m. m ∷ []) f
ends_more k (u ∷ ts) t n e =
    let l = length-append u (concat ts) in
    ap (λ es. (k + length u) ∷ es) (ends_more (k + length u) ts t n (omega (arith, e, l)))

bytes_more : (ts : List (List ℕ)) (t : List ℕ) → concat (ts ++ t ∷ []) ≡ concat ts ++ t
bytes_more ts t = concat-append ts (t ∷ []) ∙ ap (λ bs. concat ts ++ bs) (append-nil t)

all_more : (ts : List (List ℕ)) (t : List ℕ) → AreUtf8 ts → IsUtf8 t → AreUtf8 (ts ++ t ∷ [])
all_more [] t a u = (u, tt)
all_more (s ∷ ts) t a u = (a.0, all_more ts t a.1 u)

pub joined_more : (ts : List (List ℕ)) (ends bytes : List ℕ) (t : List ℕ) (n : ℕ)
    → AreJoined ts ends bytes → IsUtf8 t → n ≡ length bytes + length t
    → AreJoined (ts ++ t ∷ []) (ends ++ n ∷ []) (bytes ++ t)
joined_more ts ends bytes t n j u e =
    let l = ap length j.bytes_are in record {
      ends_are = ap (λ es. es ++ n ∷ []) j.ends_are
          ∙ sym (ends_more 0 ts t n (omega (arith, e, l)));
      bytes_are = ap (λ bs. bs ++ t) j.bytes_are ∙ sym (bytes_more ts t);
      utf8 = all_more ts t j.utf8 u;
    }

-- ---- one of the texts

-- the offset at which it begins
abbrev start_of : ℕ → List (List ℕ) → ℕ
start_of n ts = length (concat (take n ts))

end_at : (k : ℕ) (ts : List (List ℕ)) (n : ℕ) (d : ℕ) → n < length ts
    → get_or (ends_of k ts) n d ≡ k + start_of (suc n) ts
end_at k (t ∷ ts) zero d h = let l = length-append t (concat (take 0 ts)) in omega (arith, l)
end_at k (t ∷ ts) (suc n) d h =
    let l = length-append t (concat (take (suc n) ts)) in
    let r = end_at (k + length t) ts n d (omega (arith, h)) in
    omega (arith, l, r)
end_at k [] n d h = absurd (omega (arith, h))

start_next : (ts : List (List ℕ)) (n : ℕ) (d : List ℕ) → n < length ts
    → start_of (suc n) ts ≡ start_of n ts + length (get_or ts n d)
start_next (t ∷ ts) zero d h = let l = length-append t (concat (take 0 ts)) in omega (arith, l)
start_next (t ∷ ts) (suc n) d h =
    let l = length-append t (concat (take (suc n) ts)) in
    let m = length-append t (concat (take n ts)) in
    let r = start_next ts n d (omega (arith, h)) in
    omega (arith, l, m, r)
start_next [] n d h = absurd (omega (arith, h))

piece_at : (ts : List (List ℕ)) (n : ℕ) (d : List ℕ) → n < length ts
    → take (length (get_or ts n d)) (drop (start_of n ts) (concat ts)) ≡ get_or ts n d
piece_at (t ∷ ts) zero d h = take-append_seam t (concat ts)
piece_at (t ∷ ts) (suc n) d h =
    rw (length-append t (concat (take n ts)), drop-append-add t (concat ts) (start_of n ts))
    (piece_at ts n d (omega (arith, h)))
piece_at [] n d h = absurd (omega (arith, h))

start_within : (ts : List (List ℕ)) (n : ℕ) → start_of n ts ≤ length (concat ts)
start_within ts zero = omega arith
start_within [] (suc n) = omega arith
start_within (t ∷ ts) (suc n) =
    let l = length-append t (concat (take n ts)) in
    let m = length-append t (concat ts) in
    let r = start_within ts n in
    omega (arith, l, m, r)

all_at : (ts : List (List ℕ)) (n : ℕ) (d : List ℕ) → n < length ts → AreUtf8 ts
    → IsUtf8 (get_or ts n d)
all_at (t ∷ ts) zero d h a = a.0
all_at (t ∷ ts) (suc n) d h a = all_at ts n d (omega (arith, h)) a.1
all_at [] n d h a = absurd (omega (arith, h))

-- where a text begins and ends in the buffer
pub record Lies (ts : List (List ℕ)) (bytes : List ℕ) (n start end : ℕ) : Type 0 where
  pub ordered : start ≤ end
  pub within : end ≤ length bytes
  pub text : take (end - start) (drop start bytes) ≡ get_or ts n []
  pub utf8 : IsUtf8 (get_or ts n [])

module _ (ts : List (List ℕ)) (ends bytes : List ℕ) (j : AreJoined ts ends bytes) (n : ℕ)
    (h : n < length ts) where
  lies_from : (start end : ℕ) → start ≡ start_of n ts → end ≡ start_of (suc n) ts
      → Lies ts bytes n start end
  lies_from start end e f =
      let m = start_next ts n [] h in
      let w = start_within ts (suc n) in
      let l = ap length j.bytes_are in
      let size : end - start ≡ length (get_or ts n []) = omega (arith, e, f, m) in record {
        ordered = omega (arith, e, f, m);
        within = omega (arith, f, w, l);
        text = rw (size, e, j.bytes_are) (piece_at ts n [] h);
        utf8 = all_at ts n [] h j.utf8;
      }

  end_is : (d : ℕ) → get_or ends n d ≡ start_of (suc n) ts
  end_is d = rw j.ends_are (let e = end_at 0 ts n d h in omega (arith, e))

  lies_first : (end d : ℕ) → n ≡ 0 → end ≡ get_or ends n d → Lies ts bytes n 0 end
  lies_first end d e f = lies_from 0 end (rw e refl) (f ∙ end_is d)

  lies_next : (start end m d e : ℕ) → n ≡ suc m → start ≡ get_or ends m d → end ≡ get_or ends n e
      → Lies ts bytes n start end
  lies_next start end m d e is s f =
      let before : m < length ts = omega (arith, is, h) in
      lies_from start end
      (s ∙ rw (j.ends_are, is) (let b = end_at 0 ts m d before in omega (arith, b)))
      (f ∙ end_is e)

pub lies_by : (ts : List (List ℕ)) (ends bytes : List ℕ) → AreJoined ts ends bytes
    → (n start end : ℕ) → n < length ts → (n ≡ 0 → start ≡ 0)
    → (0 < n → start ≡ get_or ends (n - 1) start) → end ≡ get_or ends n end
    → Lies ts bytes n start end
lies_by ts ends bytes j zero start end h first next e =
    rw (first refl) (lies_first ts ends bytes j zero h end end refl e)
lies_by ts ends bytes j (suc m) start end h first next e =
    let p : suc m - 1 ≡ m = omega arith in
    lies_next ts ends bytes j (suc m) h start end m start end refl (rw p at next (omega arith)) e

pub none_past : (ts : List (List ℕ)) (n : ℕ) → length ts ≤ n → [] ≡ get_or ts n []
none_past [] n h = refl
none_past (t ∷ ts) zero h = absurd (omega (arith, h))
none_past (t ∷ ts) (suc n) h = none_past ts n (omega (arith, h))
