-- A skipped payload makes bytes or a bytearray whatever it holds, so one step stands for all.
use Rattle.std.proofs.Common.{◌≤◌, None, Some, option_map, length, ap, subst, sym, ◌∙◌}
use Rattle.pkmachine.specs.Effects.{effect_of}
use Rattle.pkmachine.specs.Policies.{permit_of}
use Rattle.pkimport.specs.Import.{asked_shown}
use Rattle.pkmachine.specs.Knowledge.{Knowledge}
use Rattle.pkmachine.specs.declared.stepping.Moved.TheVariants.{On}
use Rattle.pkops.specs.Payloads.{is_passed}
use Rattle.std.specs.Prelude.{IsTrue}
use Rattle.pkmachine.proofs.StepParts.Settings.{passed_effect}
use Rattle.pkmachine.proofs.StepParts.CoveredStep.{fails, goes_on}
use Rattle.pkmachine.proofs.StepParts.Longest.{longest}
use Rattle.pkmachine.proofs.StepParts.SkippedPayloads.{lacks_room, passed_admitted, passes}
use Rattle.pkmachine.proofs.machine.Machine.step_passed_by.Goals as goal

pub returns-in-Ok-clause-step : goal.returns-in-Ok-clause-step
returns-in-Ok-clause-step g c i same =
    let p = permit_of c.args.policy.now in
    let e = passed_effect c.args.self.now.view.old_strings i
    (subst (λ o. IsTrue (is_passed o)) (sym same) c.requires.passed)
    ∙ (ap effect_of same ∙ c.class_passed.ensures c.requires.passed) in
    let stack = subst (λ (k : Knowledge). length k.entries ≤ c.self.inside.config.limits.stack)
    c.in-Ok.ensures.ok c.in-Ok.ensures.room in
    goes_on p i c.args.self.now.view _ On
    (passes p i c.args.self.now.view _ c.class_passed.result e (rw (← c.self.view_is) stack)
    (rw (← c.self.view_is) (c.self.invariant.0 c.in_default.is).1) c.requires.running
    (rw (← c.self.view_is) (λ j. record {
      knowledge = c.in-Ok.ensures.ok j;
      limits = c.self.inside.config.limits;
      old_strings = c.self.inside.config.old_strings;
      imports = c.make_passed.ensures.imports j;
      off = option_map asked_shown c.self.inside.off;
      refused = c.self.inside.refused;
      stopped = c.self.inside.stopped;
      texts = c.in-Ok.ensures.texts j;
    })))
    (rw (← c.self.view_is) c.in_default.is)

pub returns-in-Err-clause-step : goal.returns-in-Err-clause-step
returns-in-Err-clause-step g c i same =
    let p = permit_of c.args.policy.now in
    let e = passed_effect c.args.self.now.view.old_strings i
    (subst (λ o. IsTrue (is_passed o)) (sym same) c.requires.passed)
    ∙ (ap effect_of same ∙ c.class_passed.ensures c.requires.passed) in
    let (v, long) = longest c.bounded_names.ensures c.args.policy.now in
    fails p i c.args.self.now.view _ c.in-Err.reason v long
    (passed_admitted i.op i.arg
    (subst (λ o. IsTrue (is_passed o)) (sym same) c.requires.passed))
    (rw (← c.self.view_is) c.in_default.is)
    (lacks_room p i c.args.self.now.view _ c.class_passed.result e c.in-Err.reason
    (rw (← c.self.view_is) c.in-Err.ensures.err)
    (rw (← c.self.view_is) (λ j. record {
      knowledge = (c.in-Err.ensures.kept j).knowledge;
      limits = c.self.inside.config.limits;
      old_strings = c.self.inside.config.old_strings;
      imports = (c.in-Err.ensures.kept j).imports;
      off = None;
      refused = Some c.in-Err.reason;
      stopped = c.self.inside.stopped;
      texts = (c.in-Err.ensures.kept j).texts;
    })))
