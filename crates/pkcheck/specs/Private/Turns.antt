-- How the next instruction of a reader is observed and judged.
use Rattle.std.specs.Prelude.{◌≡◌, ◌-◌, ◌≤◌, ◌⊎◌, ℕ, Bool, true, false, List, [], ◌∷◌, Ok, Err}
use Rattle.pkops.specs.Inst.{instruction_of}
use Rattle.pkops.specs.Spelling.{Instruction}
use Rattle.pkops.specs.declared.Inst.{Inst}
use Rattle.pkops.specs.declared.Op.{Op}
use Rattle.pkops.specs.declared.Refusal.{Refusal}
use Rattle.pkread.specs.Heads.{StepsHead}
use Rattle.pkread.specs.ReaderCalls.{ReaderState, Steps}
use Rattle.pkread.specs.Rows.{all_bytes}
use Rattle.pkread.specs.declared.Head.TheVariants as head
use Rattle.pkread.specs.declared.Next.TheVariants as next
use Rattle.pkmachine.specs.Knowledge.{Policy}
use Rattle.pkmachine.specs.Following.{HasLength}
use Rattle.pkcheck.specs.Private.Judgement.{BothGoOn, IsRefused, SessionView}
use Rattle.pkcheck.specs.Private.Lent.{heard_before}
use Rattle.pkcheck.specs.Reports.{Report}
use Rattle.pkmachine.specs.View.{View}

module _ (s t : ReaderState) where
  -- the reader returned the instruction at this offset, whole, or without its payload if none is
  -- held, and this holds of it
  abbrev pub Gave : (holding : Bool) → ℕ → (Instruction → Type 0) → Type 0
  Gave true at P = (inst : Inst) × Steps s (Ok (next.Inst at inst)) t × P (instruction_of inst)
  Gave false at P =
      ((inst : Inst) × StepsHead s (Ok (head.Inst at inst)) t × P (instruction_of inst))
      ⊎ ((op : Op) × (count : ℕ) × StepsHead s (Ok (head.Passed at op count)) t
      × ((i : Instruction) → HasLength i op (t.taken - at) → P i))

  -- the reader refused
  abbrev pub TurnedDown : (holding : Bool) → Refusal → Type 0
  TurnedDown true r = Steps s (Err r) t
  TurnedDown false r = StepsHead s (Err r) t

module _ (holding : Bool) {A : Type 0} (hears : A → A → List Report → Type 0) (first now : A)
    (policy : Policy) (s t : ReaderState) (before : SessionView) where
  -- the audience observes this instruction at this offset
  abbrev pub Hears : ℕ → Instruction → Type 0
  Hears at i = hears first now (heard_before holding at i before.machine ∷ [])

  -- it observes the next instruction, which is accepted
  pub record HearsNext (after : SessionView) : Type 0 where
    pub at : ℕ
    pub gave : Gave s t holding at (λ i.
        BothGoOn policy i before.frame before.machine after.frame after.machine × Hears at i)
    pub within : t.taken ≤ all_bytes

  -- it observes the next instruction, which is refused
  pub record RefusesTold (after : View) (r : Refusal) : Type 0 where
    pub gave : Gave s t holding r.at
        (λ i. IsRefused policy i before.frame before.machine after r.reason × Hears r.at i)

  -- or the reader refuses
  abbrev pub RefusesNext : View → Refusal → Type 0
  RefusesNext after r =
      (TurnedDown s t holding r × (after ≡ before.machine) × (now ≡ first)) ⊎ RefusesTold after r

-- the audience fails at the next instruction
pub record FailsNext (holding : Bool) {A X : Type 0} (fails : A → A → Report → X → Type 0)
    (first now : A) (s t : ReaderState) (before : SessionView) (error : X) : Type 0 where
  pub at : ℕ
  pub gave : Gave s t holding at
      (λ i. fails first now (heard_before holding at i before.machine) error)
