-- If the checker accepts instructions, all their runs are sound.
use Rattle.std.proofs.Common.{◌≡◌, ℕ, List, [], ◌∷◌, ◌++◌, Option, Some, None, inl, inr, refl, sym}
use Rattle.std.proofs.Common.{ap, subst}
use Rattle.pkops.specs.Limits.{Bounds}
use Rattle.pkops.specs.Spelling.{Instruction}
use Rattle.pkimport.specs.Import.{Asked, AskedPair, AskedUnknown}
use Rattle.pkmachine.specs.declared.old_strings.OldStrings.{OldStrings}
use Rattle.pkmachine.specs.Covers.{Adds, AlikeEntry, Covers, Follows, IsAsked, Pointwise, TrueOf}
use Rattle.pkmachine.specs.Covers.{imports_of}
use Rattle.pkmachine.specs.Knowledge.{Knowledge, Policy, Progress}
use Rattle.pkmachine.specs.Runs.{Did, Event, Import, Outcome, Raised, State, Stepped, Stopped}
use Rattle.pkmachine.specs.Runs.{Stuck, WentOn, step_as}
use Rattle.pkmachine.specs.Step.{IsPermitted}
use Rattle.pkmachine.specs.StepLaws.{StepLaws}
use Rattle.pkcheck.specs.Listing.{permitted_by}
use Rattle.pkmachine.specs.WholeRuns.{AllListed, Ended, EndsWell, first_outcome, go_on, run_as}
use Rattle.pkcheck.proofs.Wholes.Walk.{Accepts, accepts_first, accepts_none}

emptied : {A B : Type 0} (es : List A) (fs : List B) (R : A → B → Type 0) → es ≡ []
    → Pointwise R es fs → fs ≡ []
emptied [] [] R e h = refl
emptied [] (f ∷ fs) R e h = absurd h
emptied (x ∷ es) fs R e h = cc

pub imports_of-append : (as' bs : List Event)
    → imports_of (as' ++ bs) ≡ imports_of as' ++ imports_of bs
imports_of-append [] bs = refl
imports_of-append (Import m n ∷ as') bs = ap (λ l. (m, n) ∷ l) (imports_of-append as' bs)
imports_of-append (Did i ns d ∷ as') bs = imports_of-append as' bs

-- without a list, every pair is permitted
any_listed : (ps : List (List ℕ × List ℕ)) → AllListed (permitted_by None) ps
any_listed [] = tt
any_listed (p ∷ ps) = (refl, any_listed ps)

asked_all : (p : Policy) (a : Option Asked) (ps : List (List ℕ × List ℕ)) → IsPermitted p a
    → IsAsked a ps → AllListed (permitted_by p) ps
asked_all None a ps h e = any_listed ps
asked_all (Some list) None ps h e = subst (AllListed list) (sym e) tt
asked_all (Some list) (Some (AskedPair m n)) ps h e = subst (AllListed list) (sym e) (h, tt)
asked_all (Some list) (Some AskedUnknown) ps h e = absurd h

-- nothing was imported, which every policy permits
none_asked : (p : Policy) → IsPermitted p None
none_asked None = tt
none_asked (Some list) = tt

module _ (p : Policy) where
  abbrev AreListed : List (List ℕ × List ℕ) → Type 0
  AreListed ps = AllListed (permitted_by p) ps

  AllListed-append : (ps qs : List (List ℕ × List ℕ)) → AreListed ps → AreListed qs
      → AreListed (ps ++ qs)
  AllListed-append [] qs h g = g
  AllListed-append (p ∷ ps) qs h g = (h.0, AllListed-append ps qs h.1 g)

  adds_listed : (a : Option Asked) (before after : List Event) → IsPermitted p a
      → Adds a before after → AreListed (imports_of before) → AreListed (imports_of after)
  adds_listed a before after h g old =
      subst (λ es. AreListed (imports_of es)) (sym g.grown)
      (subst AreListed (sym (imports_of-append before g.added))
      (AllListed-append _ _ old (asked_all p a _ h g.asked)))

  step_fine : (q : Progress) (s : State) (st : Stepped) (f : State → Ended)
      → IsPermitted p q.import → Follows q s st → AreListed (imports_of s.events)
      → ((t : State) → Covers q.after t → AreListed (imports_of t.events)
      → EndsWell (permitted_by p) (f t)) → EndsWell (permitted_by p) (go_on st f)
  step_fine q s (WentOn t) f h g old on = on t g.0
      (adds_listed q.import s.events t.events h g.1 old)
  step_fine q s (Raised t) f h (inl g) old on = adds_listed q.import s.events t.events h g old
  step_fine q s (Raised t) f h (inr g) old on =
      adds_listed None s.events t.events (none_asked p) g.1 old
  step_fine q s (Stopped x t) f h g old on = (
    emptied q.after.entries t.shape.entries (AlikeEntry (TrueOf t.objects)) g.1 g.2.entries,
    subst (λ es. AreListed (imports_of es)) (sym g.4) old,
  )
  step_fine q s (Stuck b) f h g old on = absurd g

-- a yes is sound from a covered state in which all imports so far are permitted
pub sound_from : StepLaws → {setting : OldStrings} {p : Policy} {l : Bounds}
    {is : List Instruction} {k known : Knowledge} {asked : List (Option Asked)} (s : State)
    (os : List Outcome) → Accepts setting p l is k known asked → Covers k s
    → AreListed p (imports_of s.events) → EndsWell (permitted_by p) (run_as setting is os s)
sound_from laws s os accepts_none c old = old
sound_from laws {setting = setting} {p = p} {l = l} s os
    (accepts_first {i = i} {is = is} {k = k} q e h) c old =
    let o = first_outcome os in
    step_fine p q s (step_as setting i s o) (run_as setting is _)
    (laws.permitted setting p l i k q e) (laws.sound setting p l i k q e s o c) old
    (λ t d listed. sound_from laws t _ h d listed)
