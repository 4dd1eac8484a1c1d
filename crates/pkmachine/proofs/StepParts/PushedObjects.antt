-- A step that takes nothing, imports nothing and pushes one object.
use Rattle.std.proofs.Common.{◌≡◌, ◌⊎◌, ◌∙◌, Bool, true, false, [], Some, None, length, refl, sym}
use Rattle.std.proofs.Common.{ap}
use Rattle.std.specs.Char.{is_ascii}
use Rattle.std.specs.List.{list_all}
use Rattle.std.specs.Prelude.{if◌then◌else◌, unwrap_or}
use Rattle.pkops.specs.OldBytes.{old_bytes}
use Rattle.pkops.specs.declared.Op.{Op}
use Rattle.pkops.specs.declared.Op.TheVariants as op
use Rattle.pkmachine.specs.declared.effects.Action.{Action}
use Rattle.pkmachine.specs.declared.effect.Class.TheVariants as class
use Rattle.pkmachine.specs.Private.Actions.{effect_by, is_reading}
use Rattle.pkops.specs.Limits.{Bounds}
use Rattle.pkops.specs.Spelling.{Instruction}
use Rattle.pkops.specs.declared.Reason.{Reason}
use Rattle.pkmachine.specs.Effects.{Operates, Raises, answers, effect_as, effect_of, is_old_string}
use Rattle.pkmachine.specs.Effects.{pushes, MakesText, Unknown, Ascii, Bytes, Gives, NoName}
use Rattle.pkmachine.specs.Effects.{Objects, OldStrings}
use Rattle.pkmachine.specs.Knowledge.{Known, Knowledge, Policy, advance, known_given}
use Rattle.pkmachine.specs.Private.StepErrors.{IsRefusedWith, IsForMemory, MayWantMemory}
use Rattle.pkstack.specs.Faults.{WantsRoom}
use Rattle.pkmachine.proofs.StepParts.GoesOn.{errs_by}
use Rattle.pkmachine.proofs.StepParts.Judged.{create_errs}

-- the effect of an action that decodes no old string
pub of_action : (setting : OldStrings) (i : Instruction) (o : Op) (a b : Action) → o ≡ i.op
    → effect_of o ≡ effect_by o a → is_old_string o ≡ is_reading a → a ≡ b → is_reading b ≡ false
    → effect_as setting i ≡ effect_by o b
of_action setting i o a b same e old is none =
    not_old setting ∙ (sym (ap effect_of same) ∙ (e ∙ ap (effect_by o) is)) where
      no : is_old_string i.op ≡ false
      no = sym (ap is_old_string same) ∙ (old ∙ (ap is_reading is ∙ none))

      not_old : (s : OldStrings) → effect_as s i ≡ effect_of i.op
      not_old Unknown = refl
      not_old _ = rw no refl

-- the effect of an old string's opcode
pub old_of : (o : Op) → is_old_string o ≡ true → effect_of o ≡ answers (Objects 0)
old_of op.String e = refl
old_of op.BinString e = refl
old_of op.ShortBinString e = refl
old_of _ e = cc

-- the effect of an old string under each setting
module _ (setting : OldStrings) (i : Instruction) (old : is_old_string i.op ≡ true) where
  pub old_unknown : setting ≡ Unknown → effect_as setting i ≡ answers (Objects 0)
  old_unknown e = rw e (old_of i.op old)

  pub old_bytes_pushed : setting ≡ Bytes → effect_as setting i ≡ pushes class.Bytes
  old_bytes_pushed e = rw (e, old) refl

  pub old_ascii : setting ≡ Ascii → (b : Bool) → b ≡ list_all is_ascii (unwrap_or (old_bytes i) [])
      → effect_as setting i ≡ (if b then Operates (Objects 0) NoName MakesText else Raises)
  old_ascii e b is = rw (e, old, is) refl

module _ (setting : OldStrings) (p : Policy) (l : Bounds) (i : Instruction) (k : Knowledge)
    (g : Gives) {v : Known} (e : effect_as setting i ≡ Operates (Objects 0) NoName g)
    (given : known_given g i ≡ Some v) where
  pub not_pushed : (r : Reason) → WantsRoom l.stack (length k.entries) r
      → IsRefusedWith (advance setting p l i k) (record { reason = r; pair = None })
      ⊎ (MayWantMemory (effect_as setting i) × IsForMemory (record { reason = r; pair = None }))
  not_pushed r w = errs_by setting p l i k (Operates (Objects 0) NoName g)
      (record { reason = r; pair = None }) e
      (create_errs p (Objects 0) NoName g i k refl refl l r v given w)
