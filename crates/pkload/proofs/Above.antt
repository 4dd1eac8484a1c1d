-- What exceeds a limit exceeds it in each run that gets there, whatever is answered.
use Rattle.std.proofs.Common.{◌≡◌, ℕ, Bool, true, false, List, [], ◌∷◌, inl, inr, Ok, subst}
use Rattle.std.proofs.Common.{arith}
use Rattle.std.specs.Prelude.{⊤}
use Rattle.pkops.specs.Spelling.{Instruction}
use Rattle.pkmachine.specs.Effects.{effect_as}
use Rattle.pkcheck.specs.NewRuns.{If, IfStopped, IfWentOn, InEachOf, InEveryRun, Obeys, RowObeys}
use Rattle.pkmachine.specs.RowRuns.{Afresh, Beginning, Behind, sequences_of}
use Rattle.pkmachine.specs.Runs.{Outcome, Raised, State, Stepped, Stopped, Stuck, WentOn}
use Rattle.pkmachine.specs.Runs.{effect_asks, start, step_as}
use Rattle.pkstack.specs.Shape.{and_then}
use Rattle.pkmachine.specs.WholeRuns.{Ended, EndedBy, Reached, first_outcome, outcomes_after}
use Rattle.pkmachine.specs.WholeRuns.{run_as}
use Rattle.pkmachine.specs.declared.old_strings.OldStrings.{OldStrings}
use Rattle.pkload.proofs.AtLeast.{AnswersAny, at_least}
use Rattle.pkload.proofs.Steps.{IfBilled, StepBilled, step_billed}
use Rattle.pkload.proofs.Whole.{IfEnds, each_billed, each_map, IsBilledRun}
use Rattle.pkload.specs.Bill.{Bill, all_billed, bill_before, billed}
use Rattle.pkload.specs.Costly.{GetsAbove, StepsAbove}
use Rattle.pkload.specs.Tally.{Implies, IsAtMost}
use Rattle.pkload.specs.Tolls.{IsExcess}
use Rattle.pkload.specs.declared.tally.Tally.{Tally}
use Rattle.pkload.specs.declared.tolls.Excess.{Excess}
use Rattle.pkload.specs.declared.tolls.Excess.TheVariants.{BuildsImport, HeavyKeys, OutOfMemory}
use Rattle.pkload.specs.declared.tolls.Tolls.{Tolls}

-- every run is one in which anything may be answered
may_be : (q : Bool) → If q ⊤
may_be true = tt
may_be false = tt

if_went_on : (st : Stepped) (P : State → Type 0) → ((s : State) → P s) → IfWentOn st P
if_went_on (WentOn s) P h = h s
if_went_on _ P h = tt

obeys : (setting : OldStrings) (is : List Instruction) (outcomes : List Outcome) (s : State)
    → Obeys AnswersAny setting is outcomes s
obeys setting [] outcomes s = tt
obeys setting (i ∷ is) outcomes s = (
  may_be (effect_asks (effect_as setting i)),
  if_went_on (step_as setting i s (first_outcome outcomes)) _
      (obeys setting is (outcomes_after (effect_asks (effect_as setting i)) outcomes)),
)

if_stopped : (e : Ended) (P : State → Type 0) → ((s : State) → P s) → IfStopped e P
if_stopped (EndedBy (Stopped result s)) P h = h _
if_stopped _ P h = tt

row_obeys : (setting : OldStrings) (pickles : List (List Instruction))
    (outcomes : List (List Outcome)) (s : State) → RowObeys AnswersAny setting pickles outcomes s
row_obeys setting [] outcomes s = tt
row_obeys setting (p ∷ ps) [] s = tt
row_obeys setting (p ∷ ps) (o ∷ os) s =
    (obeys setting p o s, if_stopped (run_as setting p o s) _ (row_obeys setting ps os))

in_every : (Holds : ℕ → Ended → Type 0) (setting : OldStrings) (beginning : Beginning)
    (is : List Instruction) → InEachOf AnswersAny setting beginning is Holds
    → InEveryRun setting beginning is Holds
in_every Holds setting Afresh is h = λ outcomes. h outcomes (obeys setting is outcomes start)
in_every Holds setting (Behind pickles) is h = λ earlier first outcomes e.
    h earlier first outcomes e (row_obeys setting (sequences_of pickles) earlier start)
    (obeys setting is outcomes first)

implies_is : (a b : Bool) → Implies a b → a ≡ true → b ≡ true
implies_is true b h e = h
implies_is false b h e = cc

module _ (tolls : Tolls) (memory : ℕ) where
  -- what counts more exceeds the same limit
  pub excess_above : (excess : Excess) (a b : Tally) → IsAtMost a b
      → IsExcess excess tolls a memory → IsExcess excess tolls b memory
  excess_above HeavyKeys a b h (inl e) = inl (omega (arith, h.weight, e))
  excess_above HeavyKeys a b h (inr e) = inr (omega (arith, h.work, e))
  excess_above BuildsImport a b h e = (implies_is a.builds b.builds h.builds e.0, e.1)
  excess_above OutOfMemory a b h e = e
  excess_above _ a b h e = omega arith

  module _ (setting : OldStrings) (last : Instruction) (excess : Excess) (earlier bill : Bill)
      (adds : billed last earlier ≡ Ok bill) (over : IsExcess excess tolls bill.tally memory) where
    steps_above : (n : ℕ) (st : Stepped) → StepBilled at_least n bill st
        → StepsAbove excess tolls memory n st
    steps_above n (WentOn t) h = excess_above excess bill.tally _ h.tally over
    steps_above n (Raised t) h = excess_above excess bill.tally _ h over
    steps_above n (Stopped r t) h = excess_above excess bill.tally _ h.0.tally over
    steps_above n (Stuck b) h = h

    gets_above : (n : ℕ) (e : Ended) → IfEnds at_least n (Ok earlier) e
        → GetsAbove setting last excess tolls memory n e
    gets_above n (Reached s) h = λ o.
        steps_above n (step_as setting last s o)
        (subst (λ x. IfBilled at_least n x (step_as setting last s o)) adds
        (step_billed at_least n setting last earlier s o h
        (may_be (effect_asks (effect_as setting last)))))
    gets_above n (EndedBy st) h = tt

    pub each_above : (beginning : Beginning) (front : List Instruction)
        → and_then (bill_before beginning) (all_billed front) ≡ Ok earlier
        → InEveryRun setting beginning front (GetsAbove setting last excess tolls memory)
    each_above beginning front e =
        in_every _ setting beginning front
        (each_map AnswersAny (IsBilledRun at_least setting front earlier)
        (GetsAbove setting last excess tolls memory) setting beginning front gets_above
        (each_billed at_least setting front earlier beginning e))
