-- The imports of one step: at most one pair.
use Rattle.std.proofs.Common.{◌≡◌, ℕ, Bool, true, false, List, [], ◌∷◌, ◌++◌, Option, Some, None}
use Rattle.std.proofs.Common.{inl, inr, sym, ap, subst, ◌∙◌}
use Rattle.std.proofs.lemmas.List.{append_cancel_left}
use Rattle.pkmachine.specs.Runs.{Event, State, Stepped, WentOn, Raised}
use Rattle.pkmachine.specs.Knowledge.{Progress}
use Rattle.pkimport.specs.Import.{Asked, AskedPair, AskedUnknown}
use Rattle.pkmachine.specs.Covers.{IsObject, imports_of, IsAsked, Adds}
use Rattle.pkmachine.proofs.Coverage.CoversBy.{FollowsBy}
use Rattle.pkmachine.specs.Faults.{AsksFor}
use Rattle.pkmachine.specs.Step.{IsPermitted}
use Rattle.pkmachine.proofs.Coverage.PermittedImports.{imports_of-append}

-- ---- imports of one step

-- the imports that a step makes
added : (a : Option Asked) (x y : List Event) → Adds a x y
    → (qs : List (List ℕ × List ℕ)) × (imports_of y ≡ imports_of x ++ qs) × IsAsked a qs
added a x y h = (imports_of h.added, ap imports_of h.grown ∙ imports_of-append x h.added, h.asked)

pub one_pair : (m n x y : List ℕ) → ◌≡◌ {A = List (List ℕ × List ℕ)} ((m, n) ∷ []) ((x, y) ∷ [])
    → (m ≡ x) × (n ≡ y)
one_pair m n x y e =
    let pick = λ (l : List (List ℕ × List ℕ)).
    elim l as (λ _. List ℕ × List ℕ) [ [] ↦ (m, n) | q ∷ qs ↦ q ] in
    (ap (λ l. (pick l).0) e, ap (λ l. (pick l).1) e)

-- two descriptions of a step give the same imports
pub same_added : (a b : Option Asked) (x y : List Event) → Adds a x y → Adds b x y
    → (ps : List (List ℕ × List ℕ)) × IsAsked a ps × IsAsked b ps
same_added a b x y h g =
    let q = added a x y h in
    let r = added b x y g in (
      q.0,
      q.2,
      subst (IsAsked b) (sym (append_cancel_left (imports_of x) q.0 r.0 (sym q.1 ∙ r.1))) r.2,
    )

pub pairs_same : (m n x y : List ℕ) (before after : List Event)
    → Adds (Some (AskedPair m n)) before after → Adds (Some (AskedPair x y)) before after
    → (m ≡ x) × (n ≡ y)
pairs_same m n x y before after h g = let q = same_added _ _ before after h g in
    one_pair m n x y (sym q.1 ∙ q.2)

-- a step imports at most one pair
pub asks_once : (m n x y : List ℕ) (s : State) (st : Stepped) → AsksFor m n s st → AsksFor x y s st
    → (m ≡ x) × (n ≡ y)
asks_once m n x y s (WentOn t) h g = pairs_same m n x y s.events t.events h g
asks_once m n x y s (Raised t) h g = pairs_same m n x y s.events t.events h g
asks_once m n x y s _ h g = absurd h

-- the pair of a listed import
abbrev pub IsPairOf : Option Asked → List ℕ → List ℕ → Type 0
IsPairOf None m n = ⊥
IsPairOf (Some (AskedPair x y)) m n = (x ≡ m) × (y ≡ n)
IsPairOf (Some AskedUnknown) m n = Unit {0}

pub none_asked : {A : Type 0} (m n : List ℕ) (ps : List (List ℕ × List ℕ)) → ps ≡ []
    → ps ≡ (m, n) ∷ [] → A
none_asked m n ps e g = cc

pub pair_of_adds : (a : Option Asked) (m n : List ℕ) (x y : List Event) → Adds a x y
    → Adds (Some (AskedPair m n)) x y → IsPairOf a m n
pair_of_adds None m n x y h g = let q = same_added _ _ x y h g in none_asked m n q.0 q.1 q.2
pair_of_adds (Some (AskedPair c d)) m n x y h g = pairs_same c d m n x y h g
pair_of_adds (Some AskedUnknown) m n x y h g = tt

pub asked_listed : (q : Progress) (s : State) (st : Stepped) (m n : List ℕ)
    → FollowsBy IsObject q s st → AsksFor m n s st → IsPairOf q.import m n
asked_listed q s (WentOn t) m n h g = pair_of_adds q.import m n s.events t.events h.1 g
asked_listed q s (Raised t) m n (inl h) g = pair_of_adds q.import m n s.events t.events h g
asked_listed q s (Raised t) m n (inr h) g = absurd (pair_of_adds None m n s.events t.events h.1 g)
asked_listed q s _ m n h g = absurd g

-- a pair off the list is not the pair of a permitted import
pub off_is_out : (list : List ℕ → List ℕ → Bool) (a : Option Asked) (m n : List ℕ)
    → IsPermitted (Some list) a → IsPairOf a m n → list m n ≡ false → ⊥
off_is_out list None m n h g e = g
off_is_out list (Some (AskedPair x y)) m n h g e =
    let yes : list m n ≡ true = subst (λ z. list m z ≡ true) g.1
    (subst (λ z. list z y ≡ true) g.0 h) in
    cc
off_is_out list (Some AskedUnknown) m n h g e = h

pub same_of : (a : Option Asked) (list : List ℕ → List ℕ → Bool) (m n x y : List ℕ)
    → IsPermitted (Some list) a → IsPairOf a m n → IsPairOf a x y → (m ≡ x) × (n ≡ y)
same_of (Some (AskedPair c d)) list m n x y l h g = (sym h.0 ∙ g.0, sym h.1 ∙ g.1)
same_of _ list m n x y l h g = absurd (assumption)
