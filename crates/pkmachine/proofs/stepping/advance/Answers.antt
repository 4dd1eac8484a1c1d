-- Each action does what its opcode's effect says, and fails with a fault of that effect.
use Rattle.std.proofs.Common.{◌≡◌, None, arith, refl}
use Rattle.std.proofs.lemmas.Result.{err_from_is_err_and}
use Rattle.pkops.specs.Inst.{instruction_of}
use Rattle.pkmachine.specs.Effects.{Moves, effect_as, effect_of, Makes, MakesIntOrBool, MakesText}
use Rattle.pkmachine.specs.Policies.{permit_of}
use Rattle.pkmachine.proofs.StepParts.GoesOn.{errs_by, move_errs, unnamed_goes}
use Rattle.pkmachine.proofs.StepParts.PushedObjects.{not_pushed, of_action}
use Rattle.pkmachine.proofs.stepping.advance.Goals as goal

pub returns-in_err-make-in-Makes-clause-err : goal.returns-in_err-make-in-Makes-clause-err
returns-in_err-make-in-Makes-clause-err g c =
    let q = err_from_is_err_and c.from_residual.result c.from_residual.ensures.1 in
    rw (q.1, q.2, c.requires.none)
    (not_pushed c.args.config.now.old_strings (permit_of c.args.policy.now)
    c.args.config.now.limits (instruction_of c.args.inst.now) c.args.state.now.view.knowledge
    (Makes c.in-Makes.class)
    (of_action c.args.config.now.old_strings (instruction_of c.args.inst.now) _ _ _
    c.op-op.ensures.op c.action_of.ensures.effect c.action_of.ensures.old c.in-Makes.is refl)
    refl c.in_err-make-in-Makes.field-0.0 c.in_err-make-in-Makes.ensures.err)

pub returns-in_err-make-in-MakesIntOrBool-clause-err
    : goal.returns-in_err-make-in-MakesIntOrBool-clause-err
returns-in_err-make-in-MakesIntOrBool-clause-err g c =
    let q = err_from_is_err_and c.from_residual-in_err-make-in-MakesIntOrBool.result
    c.from_residual-in_err-make-in-MakesIntOrBool.ensures.1 in
    rw (q.1, q.2, c.requires.none)
    (not_pushed c.args.config.now.old_strings (permit_of c.args.policy.now)
    c.args.config.now.limits (instruction_of c.args.inst.now) c.args.state.now.view.knowledge
    MakesIntOrBool (of_action c.args.config.now.old_strings (instruction_of c.args.inst.now) _ _ _
    c.op-op.ensures.op c.action_of.ensures.effect c.action_of.ensures.old
    c.in-MakesIntOrBool.is refl) refl c.in_err-make-in-MakesIntOrBool.field-0.0
    c.in_err-make-in-MakesIntOrBool.ensures.err)

pub returns-in_err-make_text-in-MakesText-clause-err
    : goal.returns-in_err-make_text-in-MakesText-clause-err
returns-in_err-make_text-in-MakesText-clause-err g c =
    let q = err_from_is_err_and c.from_residual-in_err-make_text-in-MakesText.result
    c.from_residual-in_err-make_text-in-MakesText.ensures.1 in
    rw (q.1, q.2, c.requires.none)
    (not_pushed c.args.config.now.old_strings (permit_of c.args.policy.now)
    c.args.config.now.limits (instruction_of c.args.inst.now) c.args.state.now.view.knowledge
    MakesText
    (of_action c.args.config.now.old_strings (instruction_of c.args.inst.now) _ _ _
    c.op-op.ensures.op c.action_of.ensures.effect c.action_of.ensures.old c.in-MakesText.is refl)
    refl c.in_err-make_text-in-MakesText.field-0.0 c.in_err-make_text-in-MakesText.ensures.err)

pub returns-in_err-read_copy-in-ReadsOldString-clause-err
    : goal.returns-in_err-read_copy-in-ReadsOldString-clause-err
returns-in_err-read_copy-in-ReadsOldString-clause-err g c =
    let q = err_from_is_err_and c.from_residual-in_err-read_copy-in-ReadsOldString.result
    c.from_residual-in_err-read_copy-in-ReadsOldString.ensures.1 in
    rw (q.1, q.2, c.requires.none)
    (c.in_err-read_copy-in-ReadsOldString.ensures.err (permit_of c.args.policy.now))

pub returns-in_err-apply-in-Moves-clause-err : goal.returns-in_err-apply-in-Moves-clause-err
returns-in_err-apply-in-Moves-clause-err g c =
    let q = err_from_is_err_and c.from_residual-in_err-apply-in-Moves.result
    c.from_residual-in_err-apply-in-Moves.ensures.1 in
    rw (q.1, q.2, c.requires.none)
    (errs_by c.args.config.now.old_strings (permit_of c.args.policy.now)
    c.args.config.now.limits (instruction_of c.args.inst.now) c.args.state.now.view.knowledge
    (Moves c.in-Moves.what) (record { reason = c.in_err-apply-in-Moves.field-0.0; pair = None })
    (of_action c.args.config.now.old_strings (instruction_of c.args.inst.now) _ _ _
    c.op-op.ensures.op c.action_of.ensures.effect c.action_of.ensures.old c.in-Moves.is refl)
    (move_errs (permit_of c.args.policy.now) c.args.config.now.limits
    (instruction_of c.args.inst.now) c.args.state.now.view.knowledge c.in-Moves.what
    c.in_err-apply-in-Moves.field-0.0 c.in_err-apply-in-Moves.ensures.err.1))

pub returns-in_err-operate-in-Operates-clause-err
    : goal.returns-in_err-operate-in-Operates-clause-err
returns-in_err-operate-in-Operates-clause-err g c =
    let q = err_from_is_err_and c.from_residual-in_err-operate-in-Operates.result
    c.from_residual-in_err-operate-in-Operates.ensures.1 in
    rw (q.1, q.2, c.requires.none)
    (errs_by c.args.config.now.old_strings (permit_of c.args.policy.now)
    c.args.config.now.limits (instruction_of c.args.inst.now) c.args.state.now.view.knowledge
    (effect_of c.op-op.result) (record {
      reason = c.in_err-operate-in-Operates.field-0.0;
      pair = None;
    }) (of_action c.args.config.now.old_strings (instruction_of c.args.inst.now) _ _ _
    c.op-op.ensures.op c.action_of.ensures.effect c.action_of.ensures.old c.in-Operates.is refl)
    (c.in_err-operate-in-Operates.ensures.err (permit_of c.args.policy.now)
    (instruction_of c.args.inst.now)))

pub returns-in_ok-operate-in-Operates-clause-ok : goal.returns-in_ok-operate-in-Operates-clause-ok
returns-in_ok-operate-in-Operates-clause-ok g c =
    let same : effect_as c.args.config.now.old_strings (instruction_of c.args.inst.now)
    ≡ effect_of c.op-op.result = of_action c.args.config.now.old_strings
    (instruction_of c.args.inst.now) _ _ _ c.op-op.ensures.op c.action_of.ensures.effect
    c.action_of.ensures.old c.in-Operates.is refl in
    let room = c.in_ok-operate-in-Operates.ensures.room in
    rw same (unnamed_goes (permit_of c.args.policy.now) c.args.config.now.limits
    (instruction_of c.args.inst.now) c.args.state.now.view.knowledge
    c.operate.new.self.view.knowledge
    c.args.state.now.view.imports c.operate.new.self.view.imports (effect_of c.op-op.result)
    c.in-Operates.ensures.well (c.in_ok-operate-in-Operates.ensures.ok
    (permit_of c.args.policy.now) (instruction_of c.args.inst.now)) room.0
    (omega (arith, room.1, c.requires.room.1)))
