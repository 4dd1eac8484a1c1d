-- The laws of a step, gathered from what is proved of accepted and of refused steps.
use Rattle.std.proofs.Common.{◌≡◌, List, ℕ, length, Result, Ok, Err, subst}
use Rattle.pkops.specs.Limits.{Bounds}
use Rattle.pkstack.specs.Shape.{and_then}
use Rattle.pkmachine.specs.Covers.{IsObject, TrueOf}
use Rattle.pkmachine.specs.Effects.{Effect, effect_as, number_stored}
use Rattle.pkmachine.specs.Knowledge.{Knowledge, Progress, Refusal, learn, within}
use Rattle.pkmachine.specs.RowRuns.{RunsFrom}
use Rattle.pkmachine.specs.Runs.{State, Stepped, Text, WentOn, Stopped, step_as}
use Rattle.pkmachine.specs.StepLaws.{StepLaws}
use Rattle.pkmachine.specs.Witnesses.{Answered, StepsPast, new_text}
use Rattle.pkmachine.proofs.OpenMarks.{marks_alike}
use Rattle.pkmachine.proofs.Coverage.AcceptedSteps.{step_follows}
use Rattle.pkmachine.proofs.Coverage.CoversBy.{FollowsBy, FollowsIfOk, any_answer, objects_grow}
use Rattle.pkmachine.proofs.Coverage.FirstFault.{first_fault, no_fault}
use Rattle.pkmachine.proofs.Coverage.FaultsReached.{unknown_exactly}
use Rattle.pkmachine.proofs.Coverage.OneTextStates.{Exactly, IsGoing, grows, learn_exactly}
use Rattle.pkmachine.proofs.Coverage.OneTextStates.{new_text_holds}
use Rattle.pkmachine.proofs.Coverage.PermittedImports.{no_extension, permitted_ok}
use Rattle.pkmachine.proofs.StepParts.FollowedKnowledge.{knowledge_followed}
use Rattle.pkmachine.proofs.StepParts.Longest.{longer_than}
use Rattle.pkmachine.proofs.StepParts.Settings.{wants_no_registry}

-- an accepted step goes on, or is that of STOP
going : (l : Bounds) (n : ℕ) (v : List ℕ) (e : Effect) (k : Knowledge) (s : State)
    (st : Stepped) (q : Progress) (x : Result Progress Refusal) → Exactly v e k s st x
    → and_then x (within l n) ≡ Ok q → IsGoing e st
going l n v e k s st q (Ok q') h g = h.0
going l n v e k s st q (Err r) h g = cc

gets_past : (v : List ℕ) (e : Effect) (q : Progress) (s : State) (st : Stepped) → IsGoing e st
    → FollowsBy (Answered v) q s st → StepsPast v q.after st
gets_past v e q s (WentOn t) g h = h.0
gets_past v e q s (Stopped r t) g h = h.2
gets_past v e q s _ g h = g

pub step_laws : StepLaws
step_laws = record {
  sound = λ setting policy limits i k q e s o c. subst
      (λ x. FollowsIfOk IsObject x s (step_as setting i s o)) e
      (step_follows IsObject objects_grow setting policy limits i k s o c (any_answer s.objects o));
  permitted = permitted_ok;
  goes_on = λ setting policy limits i k q e v s c.
      let effect = effect_as setting i in
      let st = step_as setting i s (new_text v s) in
      gets_past v effect q s st
      (going limits (number_stored effect i) v effect k s st q (learn policy effect i k)
      (learn_exactly v policy effect i k s (length s.objects) (Text v) c) e)
      (subst (λ x. FollowsIfOk (Answered v) x s st) e
      (step_follows (Answered v) (grows v) setting policy limits i k s (new_text v s) c
      (new_text_holds v s)));
  no_fault = λ setting b before policy limits i k q h e.
      no_fault policy limits i k (RunsFrom setting b before) h q e;
  unknown = λ setting b before policy limits i k q h e u.
      unknown_exactly policy limits i k (RunsFrom setting b before) h q e u;
  refused = λ setting b before policy limits i k r h bounded admitted e.
      let (v, long) = longer_than policy bounded in
      first_fault policy limits i k (RunsFrom setting b before) h v long r e
      (no_extension setting policy limits i k r (wants_no_registry setting i admitted) e);
  followed = knowledge_followed;
  marks = λ k s h. marks_alike (TrueOf s.objects) k.entries s.shape.entries h.entries;
}
