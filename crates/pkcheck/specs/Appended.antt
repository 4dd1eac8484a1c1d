-- Laws of what is written to a writer: consecutive writes add up.
use Rattle.std.proofs.Common.{ℕ, List, [], ◌++◌, Option, None, Some}
use Rattle.std.proofs.Common.{sym, ap, ◌∙◌, append_assoc, append-nil}
use Rattle.std.specs.Io.KnownBytes.{Appends}

-- two consecutive writes are one
pub appends_then :
    (a b c : Option (List ℕ)) (xs ys : List ℕ)
    → Appends a b xs → Appends b c ys → Appends a c (xs ++ ys)
appends_then None b c xs ys p q = tt
appends_then (Some a) None c xs ys p q = absurd p
appends_then (Some a) (Some b) None xs ys p q = absurd q
appends_then (Some a) (Some b) (Some c) xs ys p q =
    q ∙ ap (λ (zs : List ℕ). zs ++ ys) p ∙ append_assoc a xs ys

-- writing nothing changes nothing
pub appends_none : (a : Option (List ℕ)) → Appends a a []
appends_none None = tt
appends_none (Some a) = sym (append-nil a)
