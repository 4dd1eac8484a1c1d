-- What a step does in a state that a knowledge covers, given a property of the objects about which
-- nothing is known: that it is some object, or that it is one particular text.
use Rattle.std.proofs.Common.{◌≡◌, ℕ, Bool, true, false, ltb, List, [], ◌∷◌, ◌++◌, length}
use Rattle.std.proofs.Common.{None, Result, Ok, Err, arith, length-append}
use Rattle.std.specs.Prelude.{⊤}
use Rattle.std.proofs.lemmas.Bool.{ltb-true}
use Rattle.pkstack.specs.Shape.{Item}
use Rattle.pkmachine.specs.Runs.{ObjectClass, Object, State, Outcome, Raise, Go, Stepped, WentOn}
use Rattle.pkmachine.specs.Runs.{Raised, Stopped, Stuck}
use Rattle.pkmachine.specs.Knowledge.{Knowledge, Progress, Refusal}
use Rattle.pkmachine.specs.Covers.{AlikeCell, AlikeEntry, IsObject, Adds, AddsRaising}
use Rattle.pkmachine.specs.Covers.{TrueBy, CoversBy}
use Rattle.pkmachine.specs.AlikeLaws.{length-Pointwise}

-- one of two propositions
abbrev pub Choose : Bool → Type 0 → Type 0 → Type 0
Choose true P Q = P
Choose false P Q = Q

-- U holds of the answered object
abbrev pub AnswerHolds : (List Object → ℕ → Type 0) → List Object → ℕ → ObjectClass → Type 0
AnswerHolds U objects n c = Choose (ltb n (length objects)) (U objects n)
    (U (objects ++ record { class_of = c; made = false } ∷ []) (length objects))

-- U holds of the object that an outcome answers
abbrev pub OutcomeHolds : (List Object → ℕ → Type 0) → List Object → Outcome → Type 0
OutcomeHolds U objects Raise = ⊤
OutcomeHolds U objects (Go n c) = AnswerHolds U objects n c

-- what a step from a covered state means if the checker accepts it
abbrev pub FollowsBy : (List Object → ℕ → Type 0) → Progress → State → Stepped → Type 0
FollowsBy U q s (WentOn t) = CoversBy U q.after t × Adds q.import s.events t.events
FollowsBy U q s (Stopped r t) = (s.shape.entries ≡ Item r ∷ []) × (q.after.entries ≡ [])
    × CoversBy U q.after t × (q.import ≡ None) × (t.events ≡ s.events)
FollowsBy U q s (Raised t) = AddsRaising q.import s.events t.events
FollowsBy U q s (Stuck b) = ⊥

-- FollowsBy, if the checker accepts the step
abbrev pub FollowsIfOk : (List Object → ℕ → Type 0) → Result Progress Refusal → State → Stepped
    → Type 0
FollowsIfOk U (Ok q) s st = FollowsBy U q s st
FollowsIfOk U (Err r) s st = ⊤

-- as many entries are known as there are
pub covered_lengths : (U : List Object → ℕ → Type 0) (k : Knowledge) (s : State) → CoversBy U k s
    → (length k.entries ≡ length s.shape.entries) × (length k.memo ≡ length s.shape.memo)
covered_lengths U k s h = (
  length-Pointwise (AlikeEntry (TrueBy U s.objects)) k.entries s.shape.entries h.entries,
  length-Pointwise (AlikeCell (TrueBy U s.objects)) k.memo s.shape.memo h.memo,
)

-- ---- any object

pub objects_grow : (objects : List Object) (r : Object) (n : ℕ) → IsObject objects n
    → IsObject (objects ++ r ∷ []) n
objects_grow objects r n h = let l = length-append objects (r ∷ []) in omega (arith, l, h)

pub any_answer : (objects : List Object) (o : Outcome) → OutcomeHolds IsObject objects o
any_answer objects Raise = tt
any_answer objects (Go n c) =
    elim (ltb n (length objects)) as (λ b. ltb n (length objects) ≡ b
    → Choose b (IsObject objects n)
    (IsObject (objects ++ record { class_of = c; made = false } ∷ []) (length objects))) [
      | true ↦ λ e. ltb-true n (length objects) e
      | false ↦ λ e. (let l = length-append objects (record { class_of = c; made = false } ∷ []) in
          omega (arith, l))
    ] (λ i. ltb n (length objects))
