-- The bytes of a frame still open along instructions that grow at their end.
use Rattle.std.proofs.Common.{◌≡◌, ℕ, suc, ◌+◌, ◌<◌, List, [], ◌∷◌, ◌++◌, length, refl, sym, ap}
use Rattle.std.proofs.Common.{subst, ◌∙◌, arith, Option, Some, None}
use Rattle.std.specs.Prelude.{map, All, MatchOption, slice_index_or, option_map}
use Rattle.std.proofs.lemmas.List.{map-append}
use Rattle.std.proofs.lemmas.List.Elements.{All-map}
use Rattle.pkops.specs.Spelling.{Instruction, spelling}
use Rattle.pkread.specs.Framing.{Piece, IsFramed, Framed, FirstUnframed, then_counted, counted}
use Rattle.pkread.specs.Framing.{counted_all, refused_at, one_later}
use Rattle.pkread.specs.Pieces.{FramesBreak, FramesGoOn, FramesHold, piece_of}
use Rattle.pkread.proofs.Framing.Counted.{counting_is_exact}

push_after : (ps : List Piece) (q : Piece) (m k : ℕ)
    → ((n : ℕ) → counted_all n ps ≡ Some m → counted_all n (ps ++ q ∷ []) ≡ Some k) → (r : Option ℕ)
    → then_counted r (λ n. counted_all n ps) ≡ Some m
    → then_counted r (λ n. counted_all n (ps ++ q ∷ [])) ≡ Some k
push_after ps q m k go None e = cc
push_after ps q m k go (Some n) e = go n e

counted_all-push : (ps : List Piece) (q : Piece) (n m k : ℕ) → counted_all n ps ≡ Some m
    → counted m q ≡ Some k → counted_all n (ps ++ q ∷ []) ≡ Some k
counted_all-push [] q n m k e h = let i : n ≡ m = cc in rw (i, h) refl
counted_all-push (p ∷ ps) q n m k e h = push_after ps q m k (λ o i. counted_all-push ps q o m k i h)
    (counted n p) e

-- one instruction more
pub counted_more : (p : List Instruction) (i : Instruction) (m k : ℕ)
    → counted_all 0 (map piece_of p) ≡ Some m → counted m (piece_of i) ≡ Some k
    → counted_all 0 (map piece_of (p ++ i ∷ [])) ≡ Some k
counted_more p i m k e h = ap (counted_all 0) (map-append piece_of p (i ∷ []))
    ∙ counted_all-push (map piece_of p) (piece_of i) 0 m k e h

not_refused_after : (ps : List Piece) (m : ℕ)
    → ((n : ℕ) → counted_all n ps ≡ Some m → refused_at n ps ≡ None) → (r : Option ℕ)
    → then_counted r (λ n. counted_all n ps) ≡ Some m → one_later r (λ n. refused_at n ps) ≡ None
not_refused_after ps m go None e = cc
not_refused_after ps m go (Some n) e = ap (option_map (λ k. k + 1)) (go n e)

not_refused : (ps : List Piece) (n m : ℕ) → counted_all n ps ≡ Some m → refused_at n ps ≡ None
not_refused [] n m e = refl
not_refused (p ∷ ps) n m e = not_refused_after ps m (λ o i. not_refused ps o m i) (counted n p) e

refused_after : (ps : List Piece) (q : Piece) (m : ℕ)
    → ((n : ℕ) → counted_all n ps ≡ Some m → refused_at n (ps ++ q ∷ []) ≡ Some (length ps))
    → (r : Option ℕ) → then_counted r (λ n. counted_all n ps) ≡ Some m
    → one_later r (λ n. refused_at n (ps ++ q ∷ [])) ≡ Some (suc (length ps))
refused_after ps q m go None e = cc
refused_after ps q m go (Some n) e = ap (option_map (λ k. k + 1)) (go n e) ∙ ap Some (omega arith)

-- the rule refuses first at the last piece
refused_last : (ps : List Piece) (q : Piece) (n m : ℕ) → counted_all n ps ≡ Some m
    → counted m q ≡ None → refused_at n (ps ++ q ∷ []) ≡ Some (length ps)
refused_last [] q n m e h = let i : n ≡ m = cc in
    ap (λ r. one_later r (λ k. refused_at k [])) (ap (λ k. counted k q) i ∙ h)
refused_last (p ∷ ps) q n m e h = refused_after ps q m (λ o i. refused_last ps q o m i h)
    (counted n p) e

-- every instruction is spelled by some byte
spelled : (i : Instruction) → 0 < length (spelling i)
spelled i = omega arith

all_long : (p : List Instruction) → All (λ q. 0 < q.length) (map piece_of p)
all_long p = All-map (λ q. 0 < q.length) piece_of p (λ k d h. spelled (slice_index_or p k d))

framed_at : (ps : List Piece) (r : Option ℕ) → r ≡ None
    → MatchOption r (Framed ps) (FirstUnframed ps) → Framed ps
framed_at ps r e h = rw e at h

unframed_at : (ps : List Piece) (k : ℕ) (r : Option ℕ) → r ≡ Some k
    → MatchOption r (Framed ps) (FirstUnframed ps) → FirstUnframed ps k
unframed_at ps k r e h = rw e at h

-- what the rule passes is framed
pub framed_all : (p : List Instruction) (m : ℕ) → counted_all 0 (map piece_of p) ≡ Some m
    → Framed (map piece_of p)
framed_all p m e = framed_at (map piece_of p) (refused_at 0 (map piece_of p))
    (not_refused (map piece_of p) 0 m e) (counting_is_exact (map piece_of p) (all_long p))

-- the last of what the rule passes is framed
pub framed_last : (p : List Instruction) (i : Instruction) (m k : ℕ)
    → counted_all 0 (map piece_of p) ≡ Some m → counted m (piece_of i) ≡ Some k
    → IsFramed (map piece_of p) (piece_of i) []
framed_last p i m k e h = framed_all (p ++ i ∷ []) k (counted_more p i m k e h) (map piece_of p)
    (piece_of i) [] (map-append piece_of p (i ∷ []))

same_split : (xs ys : List Piece) (x y : Piece) (zs : List Piece) → length xs ≡ length ys
    → xs ++ x ∷ [] ≡ ys ++ y ∷ zs → (xs ≡ ys) × (x ≡ y) × (zs ≡ [])
same_split [] [] x y zs n e = (refl, cc, cc)
same_split (a ∷ xs) (b ∷ ys) x y zs n e =
    let h = same_split xs ys x y zs (cc) (cc) in
    let same : a ≡ b = cc in
    (ap (λ l. a ∷ l) h.0 ∙ ap (λ c. c ∷ ys) same, h.1, h.2)
same_split [] (b ∷ ys) x y zs n e = cc
same_split (a ∷ xs) [] x y zs n e = cc

-- the one that the rule refuses is not
pub unframed_last : (p : List Instruction) (i : Instruction) (m : ℕ)
    → counted_all 0 (map piece_of p) ≡ Some m → counted m (piece_of i) ≡ None
    → IsFramed (map piece_of p) (piece_of i) [] → ⊥
unframed_last p i m e h w =
    let ps = map piece_of p in
    let all : All (λ q. 0 < q.length) (ps ++ piece_of i ∷ []) =
    subst (All (λ q. 0 < q.length)) (map-append piece_of p (i ∷ [])) (all_long (p ++ i ∷ [])) in
    let f = unframed_at (ps ++ piece_of i ∷ []) (length ps) (refused_at 0 (ps ++ piece_of i ∷ []))
    (refused_last ps (piece_of i) 0 m e h) (counting_is_exact (ps ++ piece_of i ∷ []) all) in
    let (b, q, a, is, at, breaks) = f.here in
    let s = same_split ps b (piece_of i) q a (sym at) is in
    breaks
    (subst (λ x. IsFramed x q a) s.0
    (subst (λ x. IsFramed ps x a) s.1 (subst (λ x. IsFramed ps (piece_of i) x) (sym s.2) w)))

-- the laws of a list that grows at its end

pub frames_go_on : FramesGoOn
frames_go_on p i m k e h = (counted_more p i m k e h, framed_last p i m k e h)

pub frames_hold : FramesHold
frames_hold = framed_all

pub frames_break : FramesBreak
frames_break = unframed_last
