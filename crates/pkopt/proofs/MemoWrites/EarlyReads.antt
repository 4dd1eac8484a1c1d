-- The sources of reads, the first of which are kept as bytes.
use Rattle.std.proofs.Common.{◌≡◌, ℕ, zero, suc, ◌<◌, ◌≤◌, ◌-◌, List, [], ◌∷◌, ◌++◌, length, take}
use Rattle.std.proofs.Common.{get_or, set, Bool, true, false, Option, Some, None, refl, sym, ap}
use Rattle.std.proofs.Common.{◌∙◌, arith, append_assoc, append-nil}
use Rattle.std.proofs.Math.Seq.{take-suc}
use Rattle.std.proofs.lemmas.List.{get_or-append_right, get_or_append_left}
use Rattle.pkopt.specs.Private.Passes.{AreKept, KeepsMore}
use Rattle.pkopt.specs.Private.Sourced.{in_bytes}
use Rattle.pkopt.proofs.MemoWrites.WritesKept.{marked, reached, unmarked}

in_bytes-more : (xs : List ℕ) (x : ℕ) → in_bytes (xs ++ x ∷ []) ≡ in_bytes xs ++ Some x ∷ []
in_bytes-more [] x = refl
in_bytes-more (y ∷ xs) x = ap (λ (l : List (Option ℕ)). Some y ∷ l) (in_bytes-more xs x)

length-in_bytes : (xs : List ℕ) → length (in_bytes xs) ≡ length xs
length-in_bytes [] = refl
length-in_bytes (x ∷ xs) = ap suc (length-in_bytes xs)

in_bytes_at : (xs : List ℕ) (k d : ℕ) → k < length xs
    → get_or (in_bytes xs) k None ≡ Some (get_or xs k d)
in_bytes_at [] k d lt = absurd (omega (arith, lt))
in_bytes_at (x ∷ xs) zero d lt = refl
in_bytes_at (x ∷ xs) (suc k) d lt = in_bytes_at xs k d (omega (arith, lt))

-- one more byte
pub early_more : (early : List ℕ) (late : List (Option ℕ)) (x : ℕ) → late ≡ []
    → in_bytes (early ++ x ∷ []) ++ late ≡ (in_bytes early ++ late) ++ Some x ∷ []
early_more early late x e =
    ap (λ (l : List (Option ℕ)). in_bytes (early ++ x ∷ []) ++ l) e
    ∙ append-nil (in_bytes (early ++ x ∷ [])) ∙ in_bytes-more early x
    ∙ ap (λ (l : List (Option ℕ)). l ++ Some x ∷ []) (sym (append-nil (in_bytes early))
    ∙ ap (λ (l : List (Option ℕ)). in_bytes early ++ l) (sym e))

-- a source that is kept as a byte
pub early_at : (early : List ℕ) (late : List (Option ℕ)) (k d : ℕ) → k < length early
    → get_or (in_bytes early ++ late) k None ≡ Some (get_or early k d)
early_at early late k d lt =
    let l = length-in_bytes early in
    get_or_append_left (in_bytes early) late None k (omega (arith, lt, l))
    ∙ in_bytes_at early k d lt

-- another one
pub late_at : (early : List ℕ) (late : List (Option ℕ)) (k : ℕ) → length early ≤ k
    → get_or (in_bytes early ++ late) k None ≡ get_or late (k - length early) None
late_at early late k le =
    get_or-append_right (in_bytes early) late (length early) k None (length-in_bytes early) le

-- the write of the next byte is marked
pub keeps_early : (first old new : List Bool) (early : List ℕ) (m k j d : ℕ) → m ≡ suc k
    → k < length early → get_or early k d ≡ j
    → ((w : ℕ) → get_or new w false ≡ get_or old w false) → j < length new
    → KeepsMore first old (in_bytes (take k early))
    → KeepsMore first (set new j true) (in_bytes (take m early))
keeps_early first old new early m k j d is lt e same inside h = λ vs first_so.
    let before = take k early in
    let all : vs ++ in_bytes (take m early) ≡ (vs ++ in_bytes before) ++ Some j ∷ [] =
    ap (λ n. vs ++ in_bytes (take n early)) is
    ∙ ap (λ (l : List ℕ). vs ++ in_bytes l) (take-suc early k d lt)
    ∙ ap (λ x. vs ++ in_bytes (before ++ x ∷ [])) e
    ∙ ap (λ (l : List (Option ℕ)). vs ++ l) (in_bytes-more before j)
    ∙ sym (append_assoc vs (in_bytes before) (Some j ∷ [])) in
    rw all (marked (vs ++ in_bytes before) new j inside
    (reached (vs ++ in_bytes before) old new same (h vs first_so)))

late_all : (vs late : List (Option ℕ)) (m k : ℕ) (d v : Option ℕ) → m ≡ suc k → k < length late
    → get_or late k d ≡ v → vs ++ take m late ≡ (vs ++ take k late) ++ v ∷ []
late_all vs late m k d v is lt e =
    ap (λ n. vs ++ take n late) is
    ∙ ap (λ (l : List (Option ℕ)). vs ++ l) (take-suc late k d lt)
    ∙ ap (λ (x : Option ℕ). vs ++ (take k late ++ x ∷ [])) e
    ∙ sym (append_assoc vs (take k late) (v ∷ []))

-- the write of the next source is marked
pub keeps_late : (first old new : List Bool) (late : List (Option ℕ)) (m k j : ℕ) (d : Option ℕ)
    → m ≡ suc k → k < length late → get_or late k d ≡ Some j
    → ((w : ℕ) → get_or new w false ≡ get_or old w false) → j < length new
    → KeepsMore first old (take k late) → KeepsMore first (set new j true) (take m late)
keeps_late first old new late m k j d is lt e same inside h = λ vs first_so.
    rw (late_all vs late m k d (Some j) is lt e)
    (marked (vs ++ take k late) new j inside (reached (vs ++ take k late) old new same
    (h vs first_so)))

-- or it is of no write
pub keeps_none : (first old : List Bool) (late : List (Option ℕ)) (m k : ℕ) (d : Option ℕ)
    → m ≡ suc k → k < length late → get_or late k d ≡ None
    → KeepsMore first old (take k late) → KeepsMore first old (take m late)
keeps_none first old late m k d is lt e h = λ vs first_so.
    rw (late_all vs late m k d None is lt e) (unmarked (vs ++ take k late) old (h vs first_so))

-- the list was lengthened first
pub keeps_longer : (old longer new : List Bool) (more : List (Option ℕ))
    → ((w : ℕ) → get_or longer w false ≡ get_or old w false)
    → KeepsMore longer new more → KeepsMore old new more
keeps_longer old longer new more same f = λ vs h. f vs (reached vs old longer same h)

-- first those that are kept as bytes are marked, then the others
pub keeps_all : (none some all : List Bool) (early : List ℕ) (late : List (Option ℕ)) → none ≡ []
    → KeepsMore none some (in_bytes early) → KeepsMore some all late
    → AreKept (in_bytes early ++ late) all
keeps_all none some all early late empty f g = g (in_bytes early)
    (f [] (record { each = λ w. ap (λ (l : List Bool). get_or l w false) empty }))
