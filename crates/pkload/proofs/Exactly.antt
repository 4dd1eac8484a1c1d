-- A bill says just what a run costs whose answers are new.
use Rattle.std.proofs.Common.{◌≡◌, ℕ, List, ◌∷◌, ◌++◌, [], length, map, refl, sym, ap}
use Rattle.std.proofs.Common.{subst, ◌∙◌, arith}
use Rattle.pkops.specs.Spelling.{Instruction}
use Rattle.pkops.specs.declared.Op.{Op}
use Rattle.pkmachine.specs.Covers.{Pointwise}
use Rattle.pkcheck.specs.NewRuns.{AnswersNew}
use Rattle.pkmachine.specs.Runs.{Event, Go, Outcome, Raise, State, with_event}
use Rattle.pkload.proofs.Accounts.{costs_are, kept_at, new_at}
use Rattle.pkload.proofs.Readings.{Reading}
use Rattle.pkload.specs.Heft.{Heft, heft_of}
use Rattle.pkload.specs.Laws.{Costs}
use Rattle.pkload.specs.Tally.{IsAtMost, with_operation}
use Rattle.pkload.specs.Weighed.{heft_at}
use Rattle.pkload.specs.declared.tally.Tally.{Tally}

pub made_so : (hefts : List Heft) (i : Instruction) (hs : List Heft) (ns : List ℕ)
    → Pointwise (Costs hefts) hs ns
    → Costs (hefts ++ heft_of i (map (heft_at hefts) ns) ∷ []) (heft_of i hs) (length hefts)
made_so hefts i hs ns h =
    subst (λ xs. Costs (hefts ++ heft_of i xs ∷ []) (heft_of i hs) (length hefts))
    (sym (costs_are hefts hs ns h)) (new_at hefts (heft_of i hs))

pub counted_so : (o : Op) (hefts hs : List Heft) (ns : List ℕ) (a b : Tally)
    → Pointwise (Costs hefts) hs ns → a ≡ b
    → with_operation o (map (heft_at hefts) ns) a ≡ with_operation o hs b
counted_so o hefts hs ns a b h e = ap (λ xs. with_operation o xs a) (costs_are hefts hs ns h)
    ∙ ap (λ t. with_operation o hs t) e

pub still_new : (s : State) (e : Event) (i : Instruction) (o : Outcome) → AnswersNew i s o
    → AnswersNew i (with_event e s) o
still_new s e i Raise h = h
still_new s e i (Go n c) h = h

abbrev pub exactly : Reading
exactly = record {
  Weighs = Costs;
  Counts = λ a b. a ≡ b;
  Raises = IsAtMost;
  May = AnswersNew;
  none = refl;
  raises = λ run said later e h. subst (λ t. IsAtMost t later) (sym e) h;
  kept = λ hefts another heft n h. kept_at hefts another heft n h;
  made = made_so;
  counted = counted_so;
  behind = λ i s e o h. still_new s e i o h;
  again = λ hefts i said operands s number c h w e l. absurd (omega (arith, h, l));
}
