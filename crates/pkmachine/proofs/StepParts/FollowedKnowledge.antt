-- What the checker learns of an accepted instruction is what a domain carries behind it.
use Rattle.std.proofs.Common.{◌≡◌, ◌∷◌, List, [], Bool, true, false, ap, refl, ◌∙◌, sym}
use Rattle.std.proofs.Common.{Option, Some, None, Result, Ok, Err, ◌++◌, cond, subst}
use Rattle.std.specs.Prelude.{unwrap_or}
use Rattle.pkops.specs.Limits.{Bounds}
use Rattle.pkops.specs.Spelling.{Instruction}
use Rattle.pkimport.specs.Import.{Asked}
use Rattle.pkops.specs.Operands.{memo_number}
use Rattle.pkmachine.specs.declared.effect.Class.TheVariants as class
use Rattle.pkstack.specs.Shape.{Breach, Entry, Shape, Taken, and_then, operands, moved, put, top}
use Rattle.pkmachine.specs.Effects.{Answers, Effect, Gives, Leaves, Makes, MakesIntOrBool}
use Rattle.pkmachine.specs.Effects.{MakesText, MayMake, Moves, Names, NoName, Objects, OldStrings}
use Rattle.pkmachine.specs.Effects.{Operates, Raises, Stops, answers, effect_as, effect_of}
use Rattle.pkmachine.specs.Effects.{is_old_string, number_stored}
use Rattle.pkmachine.specs.Following.{followed_by, item_left, operation_followed, stop_followed}
use Rattle.pkmachine.specs.FollowedKnowledge.{KnowledgeIsFollowed, known_made, knows_by}
use Rattle.pkmachine.specs.FollowedKnowledge.{knowledge_carried}
use Rattle.pkmachine.specs.Knowledge.{Known, Knowledge, Policy, Progress, Refusal, WrongClass}
use Rattle.pkmachine.specs.Knowledge.{asked_of, known_given, learn, left_over, move_learned}
use Rattle.pkmachine.specs.Knowledge.{operate_learned, operated_on, stop_learned, within}
use Rattle.pkmachine.specs.Knowledge.{wrong_receiver}
use Rattle.pkmachine.proofs.Coverage.ShownFaults.{within_ok}
use Rattle.pkmachine.proofs.StepParts.PushedObjects.{old_of}
use Rattle.pkmachine.proofs.StepParts.Settings.{by_setting}

-- an operation leaves what is known of its object
left_known : (takes : _) (names : Names) (gives : Gives) (i : Instruction)
    → item_left gives (known_made (Operates takes names gives) i) ≡ known_given gives i
left_known takes names (Makes kind) i = refl
left_known takes names MakesIntOrBool i = refl
left_known takes names MakesText i = refl
left_known takes names (MayMake kind) i = refl
left_known takes names Answers i = refl
left_known takes names (Leaves wanted) i = refl

module _ (known : Instruction → Known) (policy : Policy) (i : Instruction) (k : Knowledge)
    (q : Progress) where
  -- what is learned of an instruction with the first effect is carried behind one with the second
  abbrev Leads : Effect → Effect → Type 0
  Leads e f = known i ≡ known_made e i → learn policy e i k ≡ Ok q
      → followed_by (knows_by known) f i (knowledge_carried k) ≡ Ok (knowledge_carried q.after)

  module _ (takes : _) (names : Names) (gives : Gives)
      (is : known i ≡ known_made (Operates takes names gives) i) where
    operation_asked : (t : Taken Known) (a : Result (Option Asked) Refusal)
        → and_then a (λ import. Ok (operated_on gives i k t import)) ≡ Ok q
        → operation_followed (knows_by known) gives i (knowledge_carried k) (Ok t)
        ≡ Ok (knowledge_carried q.after)
    operation_asked t (Err r) h = cc
    operation_asked t (Ok x) h =
        let at : operated_on gives i k t x ≡ q = cc in
        let left = ap (item_left gives) is ∙ left_known takes names gives i in
        ap (λ o. Ok (knowledge_carried (record {
          entries = put o t.operands ++ t.below;
          memo = k.memo;
        }))) left
        ∙ ap (λ (p : Progress). Ok (knowledge_carried p.after)) at

    operation_found : (found : Result (Taken Known) Breach)
        → operate_learned policy names gives i k found ≡ Ok q
        → operation_followed (knows_by known) gives i (knowledge_carried k) found
        ≡ Ok (knowledge_carried q.after)
    operation_found (Err b) h = cc
    operation_found (Ok t) h =
        elim (wrong_receiver gives t.operands) as (λ w.
        (cond w (Err WrongClass) (and_then (asked_of policy names i t.operands)
        (λ import. Ok (operated_on gives i k t import)))) ≡ Ok q
        → operation_followed (knows_by known) gives i (knowledge_carried k) (Ok t)
        ≡ Ok (knowledge_carried q.after)) [
          | true ↦ λ e. cc
          | false ↦ λ e. operation_asked t (asked_of policy names i t.operands) e
        ] h

  move_found : (found : Result Knowledge Breach) → move_learned found ≡ Ok q
      → and_then found (λ shape. Ok (knowledge_carried shape)) ≡ Ok (knowledge_carried q.after)
  move_found (Err b) h = cc
  move_found (Ok after) h =
      let at : record { after = after; import = None } ≡ q = cc in
      ap (λ (p : Progress). Ok (knowledge_carried p.after)) at

  stop_found : (found : Result (Known × List (Entry Known)) Breach)
      → stop_learned k.memo found ≡ Ok q
      → and_then found (λ taken. Ok (knowledge_carried (record {
        entries = taken.1;
        memo = k.memo;
      }))) ≡ Ok (knowledge_carried q.after)
  stop_found (Err b) h = cc
  stop_found (Ok (result, [])) h =
      let at : record { after = record { entries = []; memo = k.memo }; import = None } ≡ q = cc in
      ap (λ (p : Progress). Ok (knowledge_carried p.after)) at
  stop_found (Ok (result, entry ∷ entries)) h = cc

  alike : (e : Effect) → Leads e e
  alike (Operates takes names gives) is h =
      operation_found takes names gives is (operands takes k.entries) h
  alike (Moves move) is h = move_found (moved move (memo_number i) k) h
  alike Stops is h = stop_found (top k.entries) h
  alike Raises is h = cc

  -- an old string pushes one object, whatever it decodes to
  old_pushed : (gives : Gives) (v : Known) → known_given gives i ≡ Some v
      → wrong_receiver gives [] ≡ false → effect_of i.op ≡ answers (Objects 0)
      → Leads (Operates (Objects 0) NoName gives) (effect_of i.op)
  old_pushed gives v made right e is h =
      let taken : Taken Known = record { operands = []; below = k.entries } in
      let right' = subst (λ w. cond w (Err WrongClass) (Ok (operated_on gives i k taken None))
      ≡ Ok q) right h in
      let at : operated_on gives i k taken None ≡ q = cc in
      let known_is : known i ≡ v = is ∙ ap (λ o. unwrap_or o None) made in
      rw (e, known_is)
      (ap (λ o. Ok (knowledge_carried (record {
        entries = put o [] ++ k.entries;
        memo = k.memo;
      }))) (sym made)
      ∙ ap (λ (p : Progress). Ok (knowledge_carried p.after)) at)

  raised : (f : Effect) → Leads Raises f
  raised f is h = cc

-- behind an accepted instruction the checker knows what the domain carries
pub knowledge_followed : KnowledgeIsFollowed
knowledge_followed setting policy limits i k q h =
    let old : is_old_string i.op ≡ true → effect_of i.op ≡ answers (Objects 0) = old_of i.op in
    let known : Instruction → Known = λ j. known_made (effect_as setting j) j in
    leads (learn policy (effect_as setting i) i k) h
    (λ g. by_setting (λ e. Leads known policy i k q e (effect_of i.op)) setting i
    (alike known policy i k q (effect_of i.op))
    (λ o. old_pushed known policy i k q MakesText _ refl refl (old o))
    (λ o. raised known policy i k q (effect_of i.op))
    (λ o. old_pushed known policy i k q (Makes class.Bytes) _ refl refl (old o)) refl g) where
      leads : {R : Type 0} (x : Result Progress Refusal)
          → and_then x (within limits (number_stored (effect_as setting i) i)) ≡ Ok q
          → (x ≡ Ok q → R) → R
      leads (Err r) e f = cc
      leads (Ok p) e f = f (ap Ok (sym (within_ok limits _ p q e)))
