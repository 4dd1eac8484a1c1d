-- A Python 2 string pushes any object, its bytes or its text, as the setting says.
use Rattle.std.proofs.Common.{◌∙◌, None, arith, inl, refl, sym, true, false}
use Rattle.std.proofs.lemmas.Grind.{common_steps}
use Rattle.std.proofs.lemmas.Result.{IfErr-weaker, err_from_is_err_and}
use Rattle.pkops.specs.Inst.{instruction_of}
use Rattle.pkops.specs.declared.Reason.TheVariants as reason
use Rattle.pkmachine.specs.declared.effect.Class.TheVariants as class
use Rattle.pkmachine.specs.Effects.{Raises, Answers, Makes, MakesText}
use Rattle.pkmachine.specs.Knowledge.{NotAscii}
use Rattle.pkmachine.proofs.StepParts.GoesOn.{errs_by}
use Rattle.pkmachine.proofs.StepParts.PushedObjects.{not_pushed, old_ascii, old_bytes_pushed}
use Rattle.pkmachine.proofs.StepParts.PushedObjects.{old_unknown}
use Rattle.pkmachine.proofs.stepping.read_old_string.Goals as goal

pub returns-in-Unknown : goal.returns-in-Unknown
returns-in-Unknown g c = record {
  ok = λ p. grind (arith, common_steps);
  carried = c.answer.ensures.carried;
  room = grind (arith, common_steps);
  texts = grind (arith, common_steps);
  kept = c.answer.ensures.kept;
  err = λ p. IfErr-weaker c.answer.result _ _
      (λ r h. not_pushed c.args.config.now.old_strings p c.args.config.now.limits
      (instruction_of c.args.inst.now) c.args.state.now.view.knowledge Answers
      (old_unknown c.args.config.now.old_strings (instruction_of c.args.inst.now)
      c.requires.old.0 c.in-Unknown.is) refl r h) c.answer.ensures.err;
}

pub returns-in-Bytes : goal.returns-in-Bytes
returns-in-Bytes g c = record {
  ok = λ p. grind (arith, common_steps);
  carried = c.make.ensures.carried;
  room = grind (arith, common_steps);
  texts = grind (arith, common_steps);
  kept = c.make.ensures.kept;
  err = λ p. IfErr-weaker c.make.result _ _
      (λ r h. not_pushed c.args.config.now.old_strings p c.args.config.now.limits
      (instruction_of c.args.inst.now) c.args.state.now.view.knowledge (Makes class.Bytes)
      (old_bytes_pushed c.args.config.now.old_strings
      (instruction_of c.args.inst.now) c.requires.old.0 c.in-Bytes.is) refl r h)
      c.make.ensures.err;
}

pub returns-then-is_ascii : goal.returns-then-is_ascii
returns-then-is_ascii g c = record {
  ok = λ p. grind (arith, common_steps);
  carried = c.make_text.ensures.carried;
  room = grind (arith, common_steps);
  texts = grind (arith, common_steps);
  kept = c.make_text.ensures.kept;
  err = λ p. IfErr-weaker c.make_text.result _ _
      (λ r h. not_pushed c.args.config.now.old_strings p c.args.config.now.limits
      (instruction_of c.args.inst.now) c.args.state.now.view.knowledge MakesText
      (old_ascii c.args.config.now.old_strings (instruction_of c.args.inst.now) c.requires.old.0
      c.in-Ascii.is true (sym c.if-is_ascii.true ∙ c.in_ok-is_ascii-in-Ascii.ensures)) refl r h)
      c.make_text.ensures.err;
}

pub returns-else-is_ascii : goal.returns-else-is_ascii
returns-else-is_ascii g c = record {
  ok = λ p. tt;
  carried = tt;
  room = tt;
  texts = tt;
  kept = refl;
  err = λ p. errs_by c.args.config.now.old_strings p c.args.config.now.limits
      (instruction_of c.args.inst.now) c.args.state.now.view.knowledge Raises
      (record { reason = reason.NotAscii; pair = None }) (old_ascii c.args.config.now.old_strings
      (instruction_of c.args.inst.now) c.requires.old.0 c.in-Ascii.is false
      (sym c.if-is_ascii.false ∙ c.in_ok-is_ascii-in-Ascii.ensures))
      (inl (NotAscii, refl, refl, refl));
}

pub returns-in_err-is_ascii-in-Ascii : goal.returns-in_err-is_ascii-in-Ascii
returns-in_err-is_ascii-in-Ascii g c =
    let q = err_from_is_err_and c.from_residual.result c.from_residual.ensures.1 in
    rw (q.1, q.2) (record {
      ok = λ p. tt;
      carried = tt;
      room = tt;
      texts = tt;
      kept = refl;
      err = λ p. grind (arith, common_steps);
    })
