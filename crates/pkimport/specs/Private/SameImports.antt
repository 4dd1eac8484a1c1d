-- The comparison of imports decides whether they are equal.
use Rattle.std.specs.Prelude.{◌≡◌, ◌&&◌, Decides, List}
use Rattle.std.specs.Cmp.{IsEquivalence, decided}
use Rattle.std.specs.Str.{bytes_eq}
use Rattle.std.proofs.Common.{refl}
use Rattle.std.proofs.lemmas.Bool.Decides.{Decides-and, Decides-like}
use Rattle.std.proofs.lemmas.Slice.Eq.{bytes_eq-Decides, slice_eq-Decides}
use Rattle.pkimport.specs.Import.{Asked, AskedPair, AskedUnknown, same_asked, same_imports}

asked_decides : (x y : Asked) → Decides (same_asked x y) (x ≡ y)
asked_decides (AskedPair m n) (AskedPair p q) =
    Decides-like (bytes_eq m p && bytes_eq n q) (λ h. rw (h.0, h.1) refl) (λ e. (cc, cc))
    (Decides-and (bytes_eq m p) (bytes_eq n q) (bytes_eq-Decides m p) (bytes_eq-Decides n q))
asked_decides AskedUnknown AskedUnknown = (λ e. refl, λ e. refl)
asked_decides (AskedPair m n) AskedUnknown = (λ e. cc, λ e. cc)
asked_decides AskedUnknown (AskedPair m n) = (λ e. cc, λ e. cc)

pub imports_decide : (xs ys : List Asked) → Decides (same_imports xs ys) (xs ≡ ys)
imports_decide xs ys = slice_eq-Decides asked_decides xs ys (same_imports xs ys) refl

pub same_laws : IsEquivalence same_imports
same_laws = decided same_imports imports_decide
