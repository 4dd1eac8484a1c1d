-- The imports of every run are those that the checker lists.
use Rattle.pkmachine.specs.declared.old_strings.OldStrings.{OldStrings}
use Rattle.std.proofs.Common.{◌≡◌, ℕ, List, [], ◌∷◌, ◌++◌, Option, Some, None, inl, inr, refl, sym}
use Rattle.std.proofs.Common.{ap, subst, ◌∙◌, append-nil, append_assoc}
use Rattle.pkmachine.specs.Effects.{Stops, effect_as}
use Rattle.pkops.specs.Spelling.{Instruction}
use Rattle.pkmachine.specs.Runs.{State, Event, Outcome, Stepped, WentOn, Raised, Stopped, Stuck}
use Rattle.pkmachine.specs.Runs.{step_as}
use Rattle.pkmachine.specs.Knowledge.{Knowledge, Policy, Progress}
use Rattle.pkimport.specs.Import.{Asked, AskedPair, AskedUnknown, asks_more}
use Rattle.pkops.specs.Limits.{Bounds}
use Rattle.pkmachine.specs.WholeRuns.{Ended, first_outcome, go_on, run_as}
use Rattle.pkmachine.specs.Covers.{Adds, Covers, Follows, IsAsked, Pointwise, imports_of}
use Rattle.pkmachine.specs.StepLaws.{StepLaws}
use Rattle.pkcheck.proofs.Wholes.StopEffects.{only_stop}
use Rattle.pkcheck.proofs.Wholes.RunSteps.{stopped_by_stop}
use Rattle.pkcheck.proofs.Wholes.Soundness.{imports_of-append}
use Rattle.pkcheck.proofs.Wholes.Stops.{StopsLast, after_first}
use Rattle.pkcheck.proofs.Wholes.Walk.{Accepts, accepts_first, accepts_none}
use Rattle.pkcheck.specs.Listing.{StandsFor, IsBeginning, ImportsAreListed, imports_among}

-- no instruction follows STOP
pub stop_is_last : (setting : OldStrings) (i : Instruction) (is : List Instruction)
    → StopsLast (i ∷ is) → effect_as setting i ≡ Stops → is ≡ []
stop_is_last setting i [] h e = refl
stop_is_last setting i (j ∷ is) h e = absurd (only_stop setting i h.0 e)

Pointwise-append : {A B : Type 0} (P : A → B → Type 0) (xs : List A) (ys : List B) (vs : List A)
    (ws : List B) → Pointwise P xs ys → Pointwise P vs ws → Pointwise P (xs ++ vs) (ys ++ ws)
Pointwise-append P [] [] vs ws h g = g
Pointwise-append P (x ∷ xs) (y ∷ ys) vs ws h g = (h.0, Pointwise-append P xs ys vs ws h.1 g)
Pointwise-append P _ _ vs ws h g = absurd h

-- all of a list is a prefix of a longer one
all_begins : (as' bs : List Asked) (ps : List (List ℕ × List ℕ)) → Pointwise StandsFor as' ps
    → IsBeginning (as' ++ bs) ps
all_begins [] bs [] h = tt
all_begins (a ∷ as') bs (p ∷ ps) h = (h.0, all_begins as' bs ps h.1)
all_begins [] bs (p ∷ ps) h = absurd h
all_begins (a ∷ as') bs [] h = tt

asked_stands : (a : Option Asked) (as' : List Asked) (ps qs : List (List ℕ × List ℕ))
    → Pointwise StandsFor as' ps → IsAsked a qs → Pointwise StandsFor (asks_more a as') (ps ++ qs)
asked_stands None as' ps qs h e = subst (Pointwise StandsFor as')
    (sym (append-nil ps) ∙ ap (λ x. ps ++ x) (sym e)) h
asked_stands (Some (AskedPair m n)) as' ps qs h e = Pointwise-append StandsFor as' ps
    (AskedPair m n ∷ []) qs h (subst (Pointwise StandsFor (AskedPair m n ∷ [])) (sym e) (refl, tt))
asked_stands (Some AskedUnknown) as' ps qs h e = Pointwise-append StandsFor as' ps
    (AskedUnknown ∷ []) qs h (subst (Pointwise StandsFor (AskedUnknown ∷ [])) (sym e.2) (tt, tt))

-- the imports of the events after a step, if those before are all listed
pub adds_stands : (a : Option Asked) (as' : List Asked) (before after : List Event)
    → Pointwise StandsFor as' (imports_of before) → Adds a before after
    → Pointwise StandsFor (asks_more a as') (imports_of after)
adds_stands a as' before after h g =
    subst (λ es. Pointwise StandsFor (asks_more a as') (imports_of es)) (sym g.grown)
    (subst (Pointwise StandsFor (asks_more a as')) (sym (imports_of-append before g.added))
    (asked_stands a as' (imports_of before) (imports_of g.added) h g.asked))

pub more_among : (a : Option Asked) (as' : List Asked) (asked : List (Option Asked))
    → asks_more a as' ++ imports_among asked ≡ as' ++ imports_among (a ∷ asked)
more_among None as' asked = refl
more_among (Some a) as' asked = append_assoc as' (a ∷ []) (imports_among asked)

step_listed : (q : Progress) (s : State) (st : Stepped) (done : List Asked)
    (rest : List (Option Asked)) (f : State → Ended) → Follows q s st
    → Pointwise StandsFor done (imports_of s.events)
    → ((r : ℕ) (t : State) → st ≡ Stopped r t → rest ≡ [])
    → ((t : State) → Covers q.after t → Pointwise StandsFor (asks_more q.import done)
    (imports_of t.events) → ImportsAreListed (asks_more q.import done ++ imports_among rest)
    (f t)) → ImportsAreListed (done ++ imports_among (q.import ∷ rest)) (go_on st f)
step_listed q s (WentOn t) done rest f g h last on = subst (λ x. ImportsAreListed x (f t))
    (more_among q.import done rest) (on t g.0 (adds_stands q.import done s.events t.events h g.1))
step_listed q s (Raised t) done rest f (inl g) h last on = subst
    (λ x. IsBeginning x (imports_of t.events)) (more_among q.import done rest)
    (all_begins (asks_more q.import done) (imports_among rest) (imports_of t.events)
    (adds_stands q.import done s.events t.events h g))
step_listed q s (Raised t) done rest f (inr g) h last on =
    all_begins done _ (imports_of t.events) (adds_stands None done s.events t.events h g.1)
step_listed q s (Stopped r t) done rest f g h last on =
    rw (last r t refl, g.3, g.4, append-nil done) h
step_listed q s (Stuck b) done rest f g h last on = absurd g

module _ {setting : OldStrings} {p : Policy} {l : Bounds} where
  none_left : {is : List Instruction} {k known : Knowledge} {asked : List (Option Asked)}
      → is ≡ [] → Accepts setting p l is k known asked → asked ≡ []
  none_left e accepts_none = refl
  none_left e (accepts_first q g h) = cc

  -- the imports of a run are a prefix of the listed ones, after those listed before, and all of
  -- them if the run stopped
  pub listed_from : StepLaws → {is : List Instruction} {k known : Knowledge}
      {asked : List (Option Asked)} (done : List Asked) (s : State) (os : List Outcome)
      → StopsLast is → Accepts setting p l is k known asked → Covers k s
      → Pointwise StandsFor done (imports_of s.events)
      → ImportsAreListed (done ++ imports_among asked) (run_as setting is os s)
  listed_from laws done s os last accepts_none c had = all_begins done [] (imports_of s.events) had
  listed_from laws done s os last (accepts_first {i = i} {is = is} {k = k} q e h) c had =
      let o = first_outcome os in
      step_listed q s (step_as setting i s o) done _ (run_as setting is _)
      (laws.sound setting p l i k q e s o c) had
      (λ r t g. none_left (stop_is_last setting i is last
      (stopped_by_stop (effect_as setting i) i r s t o g)) h)
      (λ t d g. listed_from laws (asks_more q.import done) t _ (after_first i is last) h d g)

-- the imports that are listed with one more instruction
pub among_more : (done : List Asked) (asked : List (Option Asked)) (a : Option Asked)
    → done ++ imports_among (asked ++ a ∷ []) ≡ asks_more a (done ++ imports_among asked)
among_more (x ∷ done) asked None = ap (λ l. x ∷ l) (among_more done asked None)
among_more (x ∷ done) asked (Some a) = ap (λ l. x ∷ l) (among_more done asked (Some a))
among_more [] [] None = refl
among_more [] [] (Some a) = refl
among_more [] (None ∷ asked) a = among_more [] asked a
among_more [] (Some x ∷ asked) None = ap (λ l. x ∷ l) (among_more [] asked None)
among_more [] (Some x ∷ asked) (Some a) = ap (λ l. x ∷ l) (among_more [] asked (Some a))
