-- Reports that have each instruction whole.
use Rattle.std.specs.Prelude.{◌≡◌, ⊤, ℕ, ◌++◌, List, [], ◌∷◌}
use Rattle.std.proofs.Common.{append_assoc, ap, refl, subst, sym, ◌∙◌}
use Rattle.pkcheck.specs.Heard.{Heard, heard}
use Rattle.pkcheck.specs.Reports.{Report, Skipped, Told, Whole}

-- the instruction is reported whole
abbrev pub IsWhole : Told → Type 0
IsWhole (Whole i) = ⊤
IsWhole (Skipped op count) = ⊥

abbrev pub AreWhole : List Report → Type 0
AreWhole [] = ⊤
AreWhole (r ∷ rs) = IsWhole r.told × AreWhole rs

-- the same as is observed where payloads are held
abbrev pub whole_of : ℕ → ℕ → Told → List Heard
whole_of at marks (Whole i) = heard at i marks ∷ []
whole_of at marks (Skipped op count) = []

abbrev pub wholes : List Report → List Heard
wholes [] = []
wholes (r ∷ rs) = whole_of r.at r.marks r.told ++ wholes rs

-- a listener that observes instructions whole observed these
abbrev pub HearsWhole : {L : Type 0} → (L → L → List Heard → Type 0) → L → L → List Report → Type 0
HearsWhole hears old new rs = AreWhole rs × hears old new (wholes rs)

-- one more report
wholes_more : (rs : List Report) (r : Report) → wholes (rs ++ r ∷ []) ≡ wholes rs ++ wholes (r ∷ [])
wholes_more [] r = refl
wholes_more (q ∷ rs) r = ap (λ z. whole_of q.at q.marks q.told ++ z) (wholes_more rs r)
    ∙ sym (append_assoc (whole_of q.at q.marks q.told) (wholes rs) (wholes (r ∷ [])))

are_whole : (rs : List Report) (r : Report) → AreWhole rs → IsWhole r.told → AreWhole (rs ++ r ∷ [])
are_whole [] r h one = (one, tt)
are_whole (q ∷ rs) r (first, more) one = (first, are_whole rs r more one)

module _ {L : Type 0} (hears : L → L → List Heard → Type 0)
    (law : (x y z : L) (hs : List Heard) (h : Heard) → hears x y hs → hears y z (h ∷ [])
    → hears x z (hs ++ h ∷ [])) where
  one_more : (x y z : L) (hs : List Heard) (at marks : ℕ) (t : Told) → IsWhole t → hears x y hs
      → hears y z (whole_of at marks t ++ []) → hears x z (hs ++ (whole_of at marks t ++ []))
  one_more x y z hs at marks (Whole i) one before h = law x y z hs (heard at i marks) before h
  one_more x y z hs at marks (Skipped op count) one before h = absurd one

  -- one more is observed
  pub hears_whole_more : (x y z : L) (rs : List Report) (r : Report) → HearsWhole hears x y rs
      → HearsWhole hears y z (r ∷ []) → HearsWhole hears x z (rs ++ r ∷ [])
  hears_whole_more x y z rs r (all, before) (one, h) = (
    are_whole rs r all one.0,
    subst (hears x z) (sym (wholes_more rs r))
        (one_more x y z (wholes rs) r.at r.marks r.told one.0 before h),
  )
