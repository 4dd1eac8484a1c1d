-- A step that the checker accepts lists only an import that the policy permits, and one that it
-- refuses lacks no extension registry, unless it needs one.
use Rattle.pkops.specs.Operands.{memo_number, pair_named}
use Rattle.std.proofs.Common.{◌≡◌, ◌≢◌, ℕ, Bool, true, false, cond, List, [], ◌∷◌, ◌++◌, Option}
use Rattle.std.proofs.Common.{Some, None, Result, Ok, Err, refl, ap, subst}
use Rattle.pkmachine.specs.Effects.{Effect, Operates, Moves, Stops, Raises, effect_as}
use Rattle.pkmachine.specs.Effects.{number_stored, OldStrings, Names, OfArgument, OfOperands}
use Rattle.pkstack.specs.declared.Move.TheVariants.{Extends}
use Rattle.pkstack.specs.Shape.{top, Breach, Entry, Extension, and_then, unless, operands, moved}
use Rattle.pkops.specs.Spelling.{Instruction}
use Rattle.pkmachine.specs.Runs.{Text, Event, Import, Did}
use Rattle.pkmachine.specs.Knowledge.{argument_asked, Known, Knowledge, Progress, Refusal, Lacks}
use Rattle.pkmachine.specs.Knowledge.{WrongClass, OffList, TooLarge, lacking, permitted}
use Rattle.pkmachine.specs.Knowledge.{unknown_pair, operands_asked, asked_of, wrong_receiver}
use Rattle.pkmachine.specs.Knowledge.{is_past, within, left_over, learn, Policy, advance}
use Rattle.pkimport.specs.Import.{Asked, AskedPair}
use Rattle.pkops.specs.Limits.{Bounds}
use Rattle.pkmachine.specs.Covers.{Pointwise, imports_of}
use Rattle.pkmachine.specs.Step.{IsPermitted}
use Rattle.pkmachine.proofs.StepParts.Extensions.{NoExtension, moved_none, operands_none, top_none}

pub emptied : {A B : Type 0} (es : List A) (fs : List B) (R : A → B → Type 0) → es ≡ []
    → Pointwise R es fs → fs ≡ []
emptied [] [] R e h = refl
emptied [] (f ∷ fs) R e h = absurd h
emptied (x ∷ es) fs R e h = cc

pub imports_of-append : (as' bs : List Event)
    → imports_of (as' ++ bs) ≡ imports_of as' ++ imports_of bs
imports_of-append [] bs = refl
imports_of-append (Import m n ∷ as') bs = ap (λ l. (m, n) ∷ l) (imports_of-append as' bs)
imports_of-append (Did i ns d ∷ as') bs = imports_of-append as' bs

-- what the policy says of an import
abbrev AskedWell : Policy → Result (Option Asked) Refusal → Type 0
AskedWell p (Ok a) = IsPermitted p a
AskedWell p (Err r) = r ≢ Lacks Extension

no_import : (p : Policy) → IsPermitted p None
no_import None = tt
no_import (Some list) = tt

permitted_well : (p : Policy) (m n : List ℕ) → AskedWell p (permitted p m n)
permitted_well None m n = tt
permitted_well (Some list) m n =
    elim (list m n) as (λ b. list m n ≡ b → AskedWell (Some list)
    (cond b (Ok (Some (AskedPair m n))) (Err (OffList m n)))) [
      | true ↦ λ e. e
      | false ↦ λ e f. cc
    ] refl

unknown_well : (p : Policy) → AskedWell p (unknown_pair p)
unknown_well None = tt
unknown_well (Some list) = λ e. cc

two_well : (p : Policy) (j k : Known) → AskedWell p (operands_asked p j k)
two_well p (Some (Text a)) (Some (Text b)) = permitted_well p a b
two_well p None None = unknown_well p
two_well p None (Some (Text b)) = unknown_well p
two_well p (Some (Text a)) None = unknown_well p
two_well p _ _ = λ e. cc

argument_well : (p : Policy) (o : Option (List ℕ × List ℕ)) → AskedWell p (argument_asked p o)
argument_well p None = no_import p
argument_well p (Some q) = permitted_well p q.0 q.1

asked_well : (p : Policy) (names : Names) (i : Instruction) (ks : List Known)
    → AskedWell p (asked_of p names i ks)
asked_well p OfArgument i ks = argument_well p (pair_named i)
asked_well p OfOperands i (j ∷ k ∷ []) = two_well p j k
asked_well p _ i _ = no_import p

-- an accepted step lists a permitted import; under this condition, a refused one lacks no registry
module _ (p : Policy) (Condition : Type 0) where
  abbrev LearnedWell : Result Progress Refusal → Type 0
  LearnedWell (Ok q) = IsPermitted p q.import
  LearnedWell (Err r) = Condition → r ≢ Lacks Extension

  lacking_well : {A : Type 0} (x : Result A Breach) (f : A → Result Progress Refusal)
      → (Condition → NoExtension x) → ((a : A) → LearnedWell (f a))
      → LearnedWell (and_then (lacking x) f)
  lacking_well (Ok a) f h g = g a
  lacking_well (Err b) f h g = λ c e. h c (cc)

  asks_well : (a : Result (Option Asked) Refusal) (k : Knowledge) → AskedWell p a
      → LearnedWell (and_then a (λ x. Ok (record { after = k; import = x })))
  asks_well (Ok a) k h = h
  asks_well (Err r) k h = λ c. h

  either_well : (b : Bool) (r : Refusal) (x : Result Progress Refusal) → r ≢ Lacks Extension
      → LearnedWell x → LearnedWell (cond b (Err r) x)
  either_well true r x h g = λ c. h
  either_well false r x h g = g

  left_well : (es : List (Entry Known)) (a : Knowledge)
      → LearnedWell (unless (left_over es) (Ok (record { after = a; import = None })))
  left_well [] a = no_import p
  left_well (e ∷ es) a = λ c f. cc

  within_well : (l : Bounds) (n : ℕ) (x : Result Progress Refusal) → LearnedWell x
      → LearnedWell (and_then x (within l n))
  within_well l n (Err r) h = h
  within_well l n (Ok q) h = either_well (is_past l n q.after) TooLarge (Ok q) (λ e. cc) h

learn_well : (p : Policy) (e : Effect) (i : Instruction) (k : Knowledge)
    → LearnedWell p (e ≢ Moves Extends) (learn p e i k)
learn_well p (Operates takes names gives) i k =
    lacking_well p _ (operands takes k.entries) _ (λ c. operands_none takes k.entries)
    (λ t. either_well p _ (wrong_receiver gives t.operands) WrongClass _ (λ e. cc)
    (asks_well p _ (asked_of p names i t.operands) _ (asked_well p names i t.operands)))
learn_well p (Moves m) i k =
    lacking_well p _ (moved m (memo_number i) k) _
    (λ c. moved_none m (memo_number i) k (λ e. c (ap Moves e))) (λ a. no_import p)
learn_well p Stops i k =
    lacking_well p _ (top k.entries) _ (λ c. top_none k.entries) (λ a. left_well p _ a.1 _)
learn_well p Raises i k = λ c e. cc

pub permitted_learned : (p : Policy) (e : Effect) (i : Instruction) (k : Knowledge) (q : Progress)
    → learn p e i k ≡ Ok q → IsPermitted p q.import
permitted_learned p e i k q is = subst (LearnedWell p (e ≢ Moves Extends)) is (learn_well p e i k)

module _ (setting : OldStrings) (p : Policy) (l : Bounds) (i : Instruction) (k : Knowledge) where
  abbrev effect : Effect
  effect = effect_as setting i

  advance_well : LearnedWell p (effect ≢ Moves Extends) (advance setting p l i k)
  advance_well = within_well p (effect ≢ Moves Extends) l (number_stored effect i)
      (learn p effect i k) (learn_well p effect i k)

  pub permitted_ok : (q : Progress) → advance setting p l i k ≡ Ok q → IsPermitted p q.import
  permitted_ok q e = subst (LearnedWell p (effect ≢ Moves Extends)) e advance_well

  pub no_extension : (f : Refusal) → effect ≢ Moves Extends → advance setting p l i k ≡ Err f
      → f ≢ Lacks Extension
  no_extension f x e =
      let well : LearnedWell p (effect ≢ Moves Extends) (Err f) =
      subst (LearnedWell p (effect ≢ Moves Extends)) e advance_well in
      well x
