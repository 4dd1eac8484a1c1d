-- The parts of a step that goes on.
use Rattle.pkops.specs.Operands.{memo_number}
use Rattle.std.proofs.Common.{◌≡◌, ℕ, ◌<◌, ◌≤◌, ◌⊎◌, inl, inr, false, Option, is_some, List, []}
use Rattle.std.proofs.Common.{◌∷◌, length, Some, None, Ok, refl, drop, arith, length-drop}
use Rattle.pkstack.specs.declared.Move.{Move}
use Rattle.pkmachine.specs.declared.operate.StepError.{StepError}
use Rattle.pkmachine.specs.Effects.{Effect, Operates, Moves, effect_as, number_stored, OldStrings}
use Rattle.pkmachine.specs.Effects.{Gives, NoName, Takes}
use Rattle.pkstack.specs.Shape.{top, Entry, and_then, moved}
use Rattle.pkops.specs.Spelling.{Instruction}
use Rattle.pkmachine.specs.Knowledge.{Known, Knowledge, Policy, Lacks, LeftOver, TooLarge}
use Rattle.pkmachine.specs.Knowledge.{left_over, stop_learned, learn, within, advance}
use Rattle.pkimport.specs.Import.{Asked}
use Rattle.pkops.specs.Limits.{Bounds}
use Rattle.pkops.specs.declared.Reason.{Reason}
use Rattle.pkops.specs.declared.Reason.TheVariants as reason
use Rattle.pkmachine.specs.Private.Actions.{IsUnnamed}
use Rattle.pkmachine.specs.Private.StepErrors.{GoesTo, IsRefusedWith, IsForMemory, IsStopFault}
use Rattle.pkmachine.specs.Private.StepErrors.{MayWantMemory, Proceeds}
use Rattle.pkstack.specs.Faults.{IsFaultOf}
use Rattle.pkmachine.specs.View.{moved_as}
use Rattle.pkmachine.proofs.StepParts.Past.{within_fits, within_past}
use Rattle.pkmachine.specs.declared.stepping.Moved.TheVariants.{On}

some_left : (es : List (Entry Known)) → 0 < length es → left_over es ≡ Some LeftOver
some_left (e ∷ es) h = refl
some_left [] h = absurd (omega arith)

module _ (es : List (Entry Known)) (m : List (ℕ × Known)) (k : Known)
    (e : top es ≡ Ok (k, drop 1 es)) where
  pub stop_left : 1 < length es → IsStopFault (stop_learned m (top es)) reason.LeftOver
  stop_left h = let more : 0 < length (drop 1 es) = omega (arith, length-drop 1 es) in
      (LeftOver, rw (e, some_left (drop 1 es) more) refl, refl, refl)

module _ (setting : OldStrings) (p : Policy) (l : Bounds) (i : Instruction) (k : Knowledge) where
  pub errs_by : (e : Effect) (d : StepError) → effect_as setting i ≡ e
      → IsRefusedWith (and_then (learn p e i k) (within l (number_stored e i))) d
      ⊎ (MayWantMemory e × IsForMemory d) → IsRefusedWith (advance setting p l i k) d
      ⊎ (MayWantMemory (effect_as setting i) × IsForMemory d)
  errs_by e d is h = rw is h

module _ (p : Policy) (l : Bounds) (i : Instruction) (k : Knowledge) where
  pub move_errs : (m : Move) (r : Reason) → IsFaultOf m l (memo_number i)
      (moved m (memo_number i) k) r → IsRefusedWith (and_then (learn p (Moves m) i k)
      (within l (number_stored (Moves m) i))) (record { reason = r; pair = None }) ⊎
      (MayWantMemory (Moves m) × IsForMemory (record { reason = r; pair = None }))
  move_errs m r (inl (b, e, g)) = inl (Lacks b, rw e refl, g, refl)
  move_errs m r (inr (inl (e, (k', g, h)))) = inl (
    TooLarge,
    rw g (within_past l (number_stored (Moves m) i) (record { after = k'; import = None }) h),
    e,
    refl,
  )
  move_errs m r (inr (inr (w, e))) = inr (w, (e, refl))

on : (takes : Takes) (g : Gives) (a : Option Asked) → false ≡ is_some a
    → On ≡ moved_as (Operates takes NoName g) a
on takes g None e = refl
on takes g (Some a) e = absurd (cc)

-- an operation that imports nothing goes on if the limits are kept
pub unnamed_goes : (p : Policy) (l : Bounds) (i : Instruction) (k after : Knowledge)
    (before now : List Asked) (e : Effect) → IsUnnamed e
    → Proceeds (learn p e i k) after before now false → length after.entries ≤ l.stack
    → length after.memo ≤ l.memo → GoesTo e (and_then (learn p e i k)
    (within l (number_stored e i))) after before now On
unnamed_goes p l i k after before now (Operates takes NoName g) u (a, is, more, b) s m = (
  a,
  rw is (within_fits l 0 (record { after = after; import = a }) s m (omega arith)),
  more,
  on takes g a b,
)
unnamed_goes p l i k after before now _ u h s m = absurd u
