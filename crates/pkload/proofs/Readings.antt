-- What a bill may say of a run: just what it counts, or at most that.
use Rattle.std.specs.Prelude.{◌≡◌, ◌++◌, ◌∷◌, ◌<◌, [], ℕ, length, List, map}
use Rattle.pkops.specs.Spelling.{Instruction}
use Rattle.pkops.specs.declared.Op.{Op}
use Rattle.pkmachine.specs.Covers.{Pointwise}
use Rattle.pkmachine.specs.Runs.{Event, Go, ObjectClass, Outcome, State, with_event}
use Rattle.pkload.specs.Heft.{Heft, heft_of}
use Rattle.pkload.specs.Tally.{IsAtMost, no_tally, with_operation}
use Rattle.pkload.specs.Weighed.{answered_again, heft_at}
use Rattle.pkload.specs.declared.tally.Tally.{Tally}

module _ (Weighs : List Heft → Heft → ℕ → Type 0) where
  -- an earlier object, for which this answer came, costs what is said of the answer, and all others
  -- cost what was said of them
  pub record IsAgain (hefts : List Heft) (answer said : Heft) (number : ℕ) : Type 0 where
    pub kept : (heft : Heft) (n : ℕ) → Weighs hefts heft n
        → Weighs (answered_again answer number hefts) heft n
    pub is : Weighs (answered_again answer number hefts) said number

-- how what is said of an object and of what was counted is meant, for runs with such outcomes
pub record Reading : Type 1 where
  pub Weighs : List Heft → Heft → ℕ → Type 0
  -- what the run counts, and what is said
  pub Counts : Tally → Tally → Type 0
  -- likewise, if the run raised before
  pub Raises : Tally → Tally → Type 0
  pub May : Instruction → State → Outcome → Type 0
  pub none : Counts no_tally no_tally
  pub raises : (run said later : Tally) → Counts run said → IsAtMost said later
      → Raises run later
  pub kept : (hefts : List Heft) (another heft : Heft) (n : ℕ) → Weighs hefts heft n
      → Weighs (hefts ++ another ∷ []) heft n
  pub made : (hefts : List Heft) (i : Instruction) (said : List Heft) (operands : List ℕ)
      → Pointwise (Weighs hefts) said operands
      → Weighs (hefts ++ heft_of i (map (heft_at hefts) operands) ∷ []) (heft_of i said)
      (length hefts)
  pub counted : (o : Op) (hefts said : List Heft) (operands : List ℕ) (run now : Tally)
      → Pointwise (Weighs hefts) said operands → Counts run now
      → Counts (with_operation o (map (heft_at hefts) operands) run) (with_operation o said now)
  pub behind : (i : Instruction) (s : State) (e : Event) (o : Outcome) → May i s o
      → May i (with_event e s) o
  pub again : (hefts : List Heft) (i : Instruction) (said : List Heft) (operands : List ℕ)
      (s : State) (number : ℕ) (c : ObjectClass) → May i s (Go number c)
      → Pointwise (Weighs hefts) said operands → length hefts ≡ length s.objects
      → number < length s.objects
      → IsAgain Weighs hefts (heft_of i (map (heft_at hefts) operands)) (heft_of i said) number
