-- What `advance` ensures of each arm gives the parts of the contract of a step.
use Rattle.std.proofs.Common.{◌∙◌, Some, ap, option_map, sym}
use Rattle.pkops.specs.Inst.{instruction_of}
use Rattle.pkmachine.specs.Knowledge.{Knowledge}
use Rattle.pkmachine.specs.Policies.{permit_of}
use Rattle.pkimport.specs.Import.{asked_shown}
use Rattle.pkmachine.specs.Following.{MachineView}
use Rattle.pkmachine.proofs.StepParts.Longest.{longest}
use Rattle.pkmachine.proofs.StepParts.CoveredStep.{errs, fails, goes_on}
use Rattle.pkmachine.proofs.StepParts.Settings.{not_raised, texts_by_setting}
use Rattle.pkmachine.proofs.machine.Machine.step_on.Goals as goal

pub returns-in-Ok-clause-step : goal.returns-in-Ok-clause-step
returns-in-Ok-clause-step g c =
    let g = c.in-Ok.ensures.ok in
    let k : Knowledge = c.advance.new.state.view.knowledge in
    let fresh = ap (λ (v : MachineView _ _). v.view.refused) c.self.view_is ∙ c.requires.well in
    goes_on (permit_of c.args.policy.now) (instruction_of c.args.inst.now) c.args.self.now.view _
    c.in-Ok.moved (
      record { after = k; import = g.0 },
      rw (← c.self.view_is) g.1,
      rw (← c.self.view_is) (λ j. record {
        knowledge = k;
        limits = c.self.inside.config.limits;
        old_strings = c.self.inside.config.old_strings;
        imports = g.2 j;
        off = option_map asked_shown
            ((c.in-Ok.ensures.off ∙ sym (c.self.invariant.1 fresh)) j);
        refused = c.self.inside.refused;
        stopped = c.stop_after.ensures j;
        texts = c.in-Ok.ensures.texts j;
      }),
      rw (← c.self.view_is) g.3,
    ) c.requires.well

pub returns-in-Ok-clause-texts : goal.returns-in-Ok-clause-texts
returns-in-Ok-clause-texts g c =
    let g = c.in-Ok.ensures.ok in
    rw (← c.self.view_is) (c.in-Ok.ensures.texts ∙ texts_by_setting c.self.inside.config.old_strings
    (instruction_of c.args.inst.now) c.self.inside.state.view.texts
    (not_raised c.self.inside.config.old_strings (permit_of c.args.policy.now)
    c.self.inside.config.limits
    (instruction_of c.args.inst.now) c.self.inside.state.view.knowledge _ g.1))

pub returns-in-Err-clause-step : goal.returns-in-Err-clause-step
returns-in-Err-clause-step g c =
    let kept = c.in-Err.ensures.kept in
    let (v, long) = longest c.bounded_names.ensures c.args.policy.now in
    fails (permit_of c.args.policy.now) (instruction_of c.args.inst.now) c.args.self.now.view _
    c.in-Err.reason v long c.requires.admitted c.requires.well
    (errs (permit_of c.args.policy.now) (instruction_of c.args.inst.now) c.args.self.now.view _ _
    (option_map asked_shown c.advance.new.off)
    (rw (← c.self.view_is) (λ j. record {
      knowledge = (kept j).knowledge;
      limits = c.self.inside.config.limits;
      old_strings = c.self.inside.config.old_strings;
      imports = (kept j).imports;
      off = option_map asked_shown c.advance.new.off;
      refused = Some c.in-Err.reason;
      stopped = c.self.inside.stopped;
      texts = (kept j).texts;
    }))
    (rw (← c.self.view_is) c.in-Err.ensures.err))
