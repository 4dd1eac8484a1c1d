-- A step over an instruction whose payload may be skipped.
use Rattle.std.proofs.Common.{◌≡◌, ◌≤◌, inl, inr, true, false, Some, None, Ok, IsTrue, length, refl}
use Rattle.std.proofs.Common.{sym, ap, ◌∙◌, arith}
use Rattle.pkops.specs.Admitted.{is_admitted_by}
use Rattle.pkops.specs.Spelling.{Argument, Instruction}
use Rattle.pkops.specs.declared.Op.{Op}
use Rattle.pkops.specs.declared.Op.TheVariants as op
use Rattle.pkmachine.specs.declared.effect.Class.{Class}
use Rattle.pkmachine.specs.declared.stepping.Moved.TheVariants.{On}
use Rattle.pkmachine.specs.Effects.{effect_as, number_stored, pushes}
use Rattle.pkstack.specs.Shape.{and_then}
use Rattle.pkmachine.specs.Knowledge.{Policy, TooLarge, learn, within}
use Rattle.pkmachine.specs.Private.StepErrors.{with_made}
use Rattle.pkstack.specs.Faults.{WantsRoom}
use Rattle.pkops.specs.Payloads.{is_passed}
use Rattle.pkops.specs.declared.Reason.{Reason}
use Rattle.pkmachine.specs.Step.{FailsStep, GoesOn}
use Rattle.pkmachine.specs.View.{View, moved_as, texts_after}
use Rattle.pkmachine.proofs.StepParts.Past.{within_fits, within_past}
use Rattle.pkmachine.proofs.StepParts.Settings.{wants_no_memory}

-- an instruction with a skipped payload is admitted
pub passed_admitted : (o : Op) (a : Argument) → IsTrue (is_passed o) → is_admitted_by o a ≡ true
passed_admitted op.BinBytes a h = refl
passed_admitted op.ShortBinBytes a h = refl
passed_admitted op.BinBytes8 a h = refl
passed_admitted op.ByteArray8 a h = refl
passed_admitted _ a h = cc

module _ (p : Policy) (i : Instruction) (before after : View) (c : Class)
    (e : effect_as before.old_strings i ≡ pushes c) where
  learned : learn p (effect_as before.old_strings i) i before.knowledge
      ≡ Ok (record { after = with_made c before.knowledge; import = None })
  learned = rw e refl

  pub passes : length (with_made c before.knowledge).entries ≤ before.limits.stack
      → length before.knowledge.memo ≤ before.limits.memo → before.stopped ≡ false
      → after ≡ record before { knowledge = with_made c before.knowledge }
      → GoesOn p i before after On
  passes stack memo running becomes =
      let texts = sym (ap (λ x. texts_after x before.texts) e) in (
        record { after = with_made c before.knowledge; import = None },
        ap
            (λ x. and_then x
            (within before.limits (number_stored (effect_as before.old_strings i) i))) learned
            ∙ within_fits before.limits _ _ stack memo (rw e (omega arith)),
        becomes
            ∙ (λ j. record before {
              knowledge = with_made c before.knowledge;
              stopped = running j;
              texts = texts j;
            }),
        sym (ap (λ x. moved_as x None) e),
      )

  pub lacks_room : (r : Reason) → WantsRoom before.limits.stack (length before.knowledge.entries) r
      → after ≡ record before { refused = Some r; off = None } → FailsStep p i before after r
  lacks_room r (inl h) becomes =
      inl (
        TooLarge,
        ap
            (λ x. and_then x
            (within before.limits (number_stored (effect_as before.old_strings i) i))) learned
            ∙ within_past before.limits _
            (record { after = with_made c before.knowledge; import = None })
            (inl (let le = h.1 in omega (arith, le))),
        h.0,
        becomes,
      )
  lacks_room r (inr h) becomes =
      inr ((λ none. wants_no_memory before.old_strings i none (rw e (inr tt))), h, becomes)
