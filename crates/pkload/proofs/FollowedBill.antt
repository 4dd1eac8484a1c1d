-- The bill after an instruction is what the domain of costs carries behind it.
use Rattle.std.proofs.Common.{◌≡◌, ◌∙◌, Ok, Err, Result, ap, cond, length, refl, sym}
use Rattle.pkops.specs.Operands.{memo_number}
use Rattle.pkops.specs.Spelling.{Instruction}
use Rattle.pkstack.specs.Shape.{Breach, NoItem, Taken, and_then, moved, operands, top}
use Rattle.pkmachine.specs.declared.effect.Gives.{Gives}
use Rattle.pkmachine.specs.declared.effect.Gives.TheVariants.{Answers, Leaves, Makes, MakesText}
use Rattle.pkmachine.specs.declared.effect.Gives.TheVariants.{MakesIntOrBool, MayMake}
use Rattle.pkmachine.specs.Effects.{Effect, Moves, Operates, Raises, Stops, effect_of}
use Rattle.pkmachine.specs.Following.{Carried, followed_by, operation_followed}
use Rattle.pkload.specs.Bill.{Bill, billed_by, move_billed, operation_billed, stop_billed}
use Rattle.pkload.specs.FollowedBill.{BillIsFollowed, Counts, bill_carried, costs}
use Rattle.pkload.specs.Heft.{Heft}
use Rattle.pkload.specs.Memory.{number_kept}

-- what the domain carries with a bill, if there is one
abbrev carries : Result Bill Breach → Result (Carried Heft Counts) Breach
carries found = and_then found (λ bill. Ok (bill_carried bill))

module _ (i : Instruction) (b : Bill) where
  operation : (gives : Gives) (found : Result (Taken Heft) Breach)
      → operation_followed costs gives i (bill_carried b) found
      ≡ carries (operation_billed gives i b found)
  operation gives (Err breach) = refl
  operation (Makes kind) (Ok taken) = refl
  operation MakesIntOrBool (Ok taken) = refl
  operation MakesText (Ok taken) = refl
  operation (MayMake kind) (Ok taken) = refl
  operation Answers (Ok taken) = refl
  operation (Leaves wanted) (Ok taken) = refl

  by_effect : (e : Effect) → followed_by costs e i (bill_carried b)
      ≡ carries (billed_by e i b)
  by_effect (Operates takes names gives) = operation gives (operands takes b.shape.entries)
  by_effect (Moves m) =
      elim (moved m (memo_number i) b.shape) as (λ found.
      and_then found (λ shape. Ok (record {
        shape = shape;
        domain = costs.after_move (bill_carried b).domain m (length b.shape.memo) i;
      }))
      ≡ carries (move_billed m (number_kept m (memo_number i) (length b.shape.memo)) b found)) [
        | Err breach ↦ refl
        | Ok shape ↦ refl
      ]
  by_effect Stops =
      elim (top b.shape.entries) as (λ found.
      and_then found (λ taken. Ok (record {
        shape = record b.shape { entries = taken.1 };
        domain = costs.after_stop (bill_carried b).domain;
      }))
      ≡ carries (stop_billed b found)) [
        | Err breach ↦ refl
        | Ok taken ↦ refl
      ]
  by_effect Raises = refl

pub bill_followed : BillIsFollowed
bill_followed i b runs =
    let goes_on = ap (λ ended. cond ended (Err NoItem) (billed_by (effect_of i.op) i b)) runs in
    by_effect i b (effect_of i.op) ∙ ap carries (sym goes_on)
