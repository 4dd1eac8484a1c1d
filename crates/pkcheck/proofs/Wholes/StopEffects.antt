-- STOP, and only STOP, stops the machine and the reader, however old strings are decoded.
use Rattle.std.proofs.Common.{◌≡◌, ◌≢◌, [], Bool, Option, None, Some, true, false, cond, refl, sym}
use Rattle.std.proofs.Common.{ap, ◌∙◌, ◌⊎◌, inl, inr}
use Rattle.std.specs.Prelude.{unwrap_or}
use Rattle.std.specs.List.{list_all}
use Rattle.std.specs.Char.{is_ascii}
use Rattle.pkops.specs.OldBytes.{old_bytes}
use Rattle.pkops.specs.Spelling.{Instruction}
use Rattle.pkops.specs.declared.Op.{Op}
use Rattle.pkops.specs.declared.Op.TheVariants as op
use Rattle.pkread.specs.Core.{phase_after}
use Rattle.pkread.specs.ReaderCalls.{is_ended}
use Rattle.pkimport.specs.Import.{Asked}
use Rattle.pkmachine.specs.declared.effect.Class.TheVariants as class
use Rattle.pkmachine.specs.declared.effect.Gives.TheVariants.{MakesText}
use Rattle.pkmachine.specs.declared.effect.Names.TheVariants.{NoName}
use Rattle.pkstack.specs.declared.Takes.TheVariants.{Objects}
use Rattle.pkmachine.specs.declared.old_strings.OldStrings.{OldStrings}
use Rattle.pkmachine.specs.declared.old_strings.OldStrings.TheVariants.{Unknown, Ascii, Bytes}
use Rattle.pkmachine.specs.Effects.{Effect, Operates, Stops, Raises, ascii_string, effect_as}
use Rattle.pkmachine.specs.Effects.{effect_of, is_old_string, pushes}
use Rattle.pkmachine.specs.View.{moved_as, stopped_by}

pub stop_stops : (setting : OldStrings) (i : Instruction) → i.op ≡ op.Stop
    → effect_as setting i ≡ Stops
stop_stops Unknown i e = rw e refl
stop_stops Ascii i e = rw e refl
stop_stops Bytes i e = rw e refl

only_stop_of : (o : Op) → o ≢ op.Stop → effect_of o ≢ Stops
only_stop_of op.Stop h = λ e. absurd (h refl)
only_stop_of _ h = λ e. cc

-- if neither of two effects is that of STOP, the chosen one isn't
neither : (b : Bool) (x y : Effect) → x ≢ Stops → y ≢ Stops → cond b x y ≢ Stops
neither true x y h g = h
neither false x y h g = g

pub only_stop : (setting : OldStrings) (i : Instruction) → i.op ≢ op.Stop
    → effect_as setting i ≢ Stops
only_stop Unknown i h = only_stop_of i.op h
only_stop Ascii i h =
    neither (is_old_string i.op) (ascii_string (unwrap_or (old_bytes i) [])) (effect_of i.op)
    (neither (list_all is_ascii (unwrap_or (old_bytes i) []))
    (Operates (Objects 0) NoName MakesText) Raises (λ e. cc) (λ e. cc))
    (only_stop_of i.op h)
only_stop Bytes i h = neither (is_old_string i.op) (pushes class.Bytes) (effect_of i.op) (λ e. cc)
    (only_stop_of i.op h)

never_stopped : (e : Effect) (a : Option Asked) → e ≢ Stops → stopped_by (moved_as e a) ≡ false
never_stopped Stops a h = absurd (h refl)
never_stopped _ None h = refl
never_stopped _ (Some a) h = refl

-- the opcode is STOP, or the reader goes on behind it
is_stop : (o : Op) → (o ≡ op.Stop) ⊎ ((o ≢ op.Stop) × (is_ended (phase_after o) ≡ false))
is_stop op.Stop = inl refl
is_stop _ = inr ((λ e. cc), refl)

-- the machine stops exactly if the reader has ended
pub same_end : (setting : OldStrings) (i : Instruction) (a : Option Asked)
    → stopped_by (moved_as (effect_as setting i) a) ≡ is_ended (phase_after i.op)
same_end setting i a = by_op (is_stop i.op) where
  by_op : (i.op ≡ op.Stop) ⊎ ((i.op ≢ op.Stop) × (is_ended (phase_after i.op) ≡ false))
      → stopped_by (moved_as (effect_as setting i) a) ≡ is_ended (phase_after i.op)
  by_op (inl e) = ap (λ x. stopped_by (moved_as x a)) (stop_stops setting i e)
      ∙ ap (λ o. is_ended (phase_after o)) (sym e)
  by_op (inr (other, on)) = never_stopped (effect_as setting i) a (only_stop setting i other)
      ∙ sym on
