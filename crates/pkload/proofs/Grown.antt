-- An instruction takes back nothing of the bill, and STOP alone ends the pickle.
use Rattle.std.proofs.Common.{◌≡◌, ◌≤◌, ℕ, Bool, true, false, cond, List, [], ◌∷◌, Result, Ok, Err}
use Rattle.std.proofs.Common.{length, refl, subst, arith}
use Rattle.std.specs.Prelude.{⊤}
use Rattle.pkops.specs.Operands.{memo_number}
use Rattle.pkops.specs.Spelling.{Instruction}
use Rattle.pkmachine.specs.Effects.{Effect, Operates, Moves, Stops, Raises, effect_of}
use Rattle.pkmachine.specs.declared.effect.Gives.{Gives}
use Rattle.pkstack.specs.Shape.{Breach, NoItem, Entry, Shape, Taken, and_then, moved, operands, top}
use Rattle.pkstack.specs.declared.Move.{Move}
use Rattle.pkload.proofs.Accounts.{at_most_across, at_most_itself, operation_grows}
use Rattle.pkload.specs.Bill.{Bill, all_billed, billed, billed_by, move_billed, operation_billed}
use Rattle.pkload.specs.Bill.{stop_billed}
use Rattle.pkload.specs.Heft.{Heft}
use Rattle.pkload.specs.Memory.{number_kept}
use Rattle.pkload.specs.Tally.{IsAtMost}

-- the later bill counts at least as much, and takes at least as much memory
pub record Grows (b c : Bill) : Type 0 where
  pub tally : IsAtMost b.tally c.tally
  pub memory : b.memory ≤ c.memory

abbrev pub IfGrows : Bill → Result Bill Breach → Type 0
IfGrows b (Ok c) = Grows b c
IfGrows b (Err r) = ⊤

-- likewise, and with it the pickle has ended, or hasn't
abbrev Leads : Bill → Bool → Result Bill Breach → Type 0
Leads b ended (Ok c) = Grows b c × (c.ended ≡ ended)
Leads b ended (Err r) = ⊤

abbrev pub is_stop : Effect → Bool
is_stop Stops = true
is_stop e = false

operation_leads : (gives : Gives) (i : Instruction) (b : Bill) (x : Result (Taken Heft) Breach)
    → Leads b b.ended (operation_billed gives i b x)
operation_leads gives i b (Ok t) =
    (record { tally = operation_grows i.op t.operands b.tally; memory = omega arith }, refl)
operation_leads gives i b (Err r) = tt

move_leads : (m : Move) (n : ℕ) (b : Bill) (x : Result (Shape Heft) Breach)
    → Leads b b.ended (move_billed m n b x)
move_leads m n b (Ok a) =
    (record { tally = at_most_itself b.tally; memory = omega arith }, refl)
move_leads m n b (Err r) = tt

stop_leads : (b : Bill) (x : Result (Heft × List (Entry Heft)) Breach)
    → Leads b true (stop_billed b x)
stop_leads b (Ok a) = (record { tally = at_most_itself b.tally; memory = omega arith }, refl)
stop_leads b (Err r) = tt

effect_leads : (e : Effect) (i : Instruction) (b : Bill)
    → Leads b (cond (is_stop e) true b.ended) (billed_by e i b)
effect_leads (Operates takes names gives) i b =
    operation_leads gives i b (operands takes b.shape.entries)
effect_leads (Moves m) i b =
    move_leads m (number_kept m (memo_number i) (length b.shape.memo)) b
    (moved m (memo_number i) b.shape)
effect_leads Stops i b = stop_leads b (top b.shape.entries)
effect_leads Raises i b =
    (record { tally = at_most_itself b.tally; memory = omega arith }, refl)

billed_leads : (i : Instruction) (b : Bill)
    → Leads b (cond (is_stop (effect_of i.op)) true b.ended) (billed i b)
billed_leads i b =
    unless_ended b.ended (billed_by (effect_of i.op) i b) (effect_leads (effect_of i.op) i b)
  where
    unless_ended : (q : Bool) (x : Result Bill Breach)
        → Leads b (cond (is_stop (effect_of i.op)) true b.ended) x
        → Leads b (cond (is_stop (effect_of i.op)) true b.ended) (cond q (Err NoItem) x)
    unless_ended true x h = tt
    unless_ended false x h = h

-- what was billed ended as it should
pub billed_ends : (i : Instruction) (b c : Bill) → billed i b ≡ Ok c
    → c.ended ≡ cond (is_stop (effect_of i.op)) true b.ended
billed_ends i b c e =
    (subst (Leads b (cond (is_stop (effect_of i.op)) true b.ended)) e (billed_leads i b)).1

next_grow : (is : List Instruction) (b : Bill) (ended : Bool) (x : Result Bill Breach)
    → ((c : Bill) → IfGrows c (all_billed is c)) → Leads b ended x
    → IfGrows b (and_then x (all_billed is))
next_grow is b ended (Ok c) on h = across (all_billed is c) (on c)
  where
    across : (y : Result Bill Breach) → IfGrows c y → IfGrows b y
    across (Ok d) g = record {
      tally = at_most_across b.tally c.tally d.tally h.0.tally g.tally;
      memory = omega (arith, h.0.memory, g.memory);
    }
    across (Err r) g = tt
next_grow is b ended (Err r) on h = tt

-- no instruction takes back what was counted, or gives memory back
pub all_grow : (is : List Instruction) (b : Bill) → IfGrows b (all_billed is b)
all_grow [] b = record { tally = at_most_itself b.tally; memory = omega arith }
all_grow (i ∷ is) b = next_grow is b _ (billed i b) (all_grow is) (billed_leads i b)
