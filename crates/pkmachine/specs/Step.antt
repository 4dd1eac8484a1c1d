-- What one step of the machine does.
use Rattle.std.specs.Prelude.{◌≡◌, ◌≢◌, ◌++◌, [], ◌∷◌, ◌⊎◌, ⊤, true, List, Option, Some, None}
use Rattle.std.specs.Prelude.{Result, Ok, Err, IfOk, IfErr, IfSome, OnOk}
use Rattle.pkops.specs.Spelling.{Instruction}
use Rattle.pkops.specs.declared.Reason.{Reason}
use Rattle.pkops.specs.declared.Reason.TheVariants.{OutOfMemory}
use Rattle.pkmachine.specs.declared.stepping.Moved.{Moved}
use Rattle.pkmachine.specs.Effects.{effect_as, OldStrings}
use Rattle.pkmachine.specs.Runs.{State, Outcome, AnswersCanBe, CanCome, step_as}
use Rattle.pkmachine.specs.Knowledge.{Policy, Knowledge, Progress, Refusal, reason_of, advance}
use Rattle.pkimport.specs.Import.{Asked, AskedPair, AskedUnknown, asks_more}
use Rattle.pkmachine.specs.Covers.{Covers, Follows}
use Rattle.pkmachine.specs.Faults.{Arrivals, AsksForTwo, HasNoFault, IsFirstFault}
use Rattle.pkmachine.specs.Memory.{WantsNoMemory}
use Rattle.pkmachine.specs.View.{View, moved_as, stopped_by, texts_after, off_pair}

-- a machine that has refused returns the same reason and does not change
abbrev pub AnswersAsBefore : View → View → Result Moved Reason → Type 0
AnswersAsBefore before after answer =
    IfSome before.refused (λ reason. (answer ≡ Err reason) × (after ≡ before))

-- the property holds of the reason when a machine refuses for the first time
abbrev pub IfFirst : View → Result Moved Reason → (Reason → Type 0) → Type 0
IfFirst before answer P = before.refused ≡ None → IfErr answer P

-- the policy permits the import, if there is one: a list must contain its pair
abbrev pub IsPermitted : Policy → Option Asked → Type 0
IsPermitted (Some list) (Some (AskedPair module_name name)) = list module_name name ≡ true
IsPermitted (Some list) (Some AskedUnknown) = ⊥
IsPermitted _ _ = ⊤

-- the step appends at most one import, which the policy permits
abbrev pub AppendsPermitted : Policy → List Asked → List Asked → Type 0
AppendsPermitted policy before after =
    (import : Option Asked) × (after ≡ asks_more import before) × IsPermitted policy import

-- a refusal changes neither the imports nor the knowledge, and every later step returns its reason
pub record RefusesForGood (before after : View) (reason : Reason) : Type 0 where
  pub imports : after.imports ≡ before.imports
  pub knowledge : after.knowledge ≡ before.knowledge
  pub refused : after.refused ≡ Some reason

-- the states that the knowledge covers, as runs that reach an instruction; in the state of a
-- witness, every answered object is possible
abbrev pub CoveredBy : OldStrings → Knowledge → Arrivals
CoveredBy setting known = record {
  setting = setting;
  any = Covers known;
  some = λ state. Covers known state × AnswersCanBe state.objects;
  outcome = CanCome;
}

module _ (policy : Policy) (instruction : Instruction) (before after : View) where
  -- the step goes on, and its knowledge, its import and its answer are those of the instruction
  abbrev pub GoesOn : Moved → Type 0
  GoesOn moved =
      (progress : Progress)
      × (advance before.old_strings policy before.limits instruction before.knowledge ≡ Ok progress)
      × (after ≡ record before {
        knowledge = progress.after;
        imports = asks_more progress.import before.imports;
        stopped = stopped_by moved;
        texts = texts_after (effect_as before.old_strings instruction) before.texts;
      })
      × (moved ≡ moved_as (effect_as before.old_strings instruction) progress.import)

  -- the instruction is refused for this reason, and nothing else changes
  abbrev pub RefusesStep : Reason → Type 0
  RefusesStep reason =
      (refusal : Refusal)
      × (advance before.old_strings policy before.limits instruction before.knowledge ≡ Err refusal)
      × (reason ≡ reason_of refusal)
      × (after ≡ record before { refused = Some reason; off = off_pair refusal })

  -- an allocation for the step was refused, and nothing else changes; this is a step that allocates
  abbrev pub StepWantsMemory : Reason → Type 0
  StepWantsMemory reason =
      (¬ WantsNoMemory instruction.op)
      × (reason ≡ OutOfMemory)
      × (after ≡ record before { refused = Some reason; off = None })

  -- the step is refused, for a fault or an allocation
  abbrev pub FailsStep : Reason → Type 0
  FailsStep reason = RefusesStep reason ⊎ StepWantsMemory reason

  -- what an accepted step means in each covered state, whatever the outcome: the step of the run
  -- finds what it needs, its import is the one appended, STOP takes the only object, and the new
  -- state is covered
  abbrev pub MeansInEachRun : Type 0
  MeansInEachRun =
      (state : State) (outcome : Outcome)
      → Covers before.knowledge state
      → (progress : Progress)
      × (progress.after ≡ after.knowledge)
      × (after.imports ≡ asks_more progress.import before.imports)
      × IsPermitted policy progress.import
      × Follows progress state (step_as before.old_strings instruction state outcome)

  -- the step goes on only if the instruction has no fault
  abbrev pub PassesNoFault : Type 0
  PassesNoFault =
      HasNoFault policy before.limits (CoveredBy before.old_strings before.knowledge) instruction

  -- an import is listed as Unknown only if two runs import different pairs
  abbrev pub UnknownIsNeeded : Type 0
  UnknownIsNeeded =
      after.imports ≡ before.imports ++ AskedUnknown ∷ []
      → AsksForTwo (CoveredBy before.old_strings before.knowledge) instruction

  -- the reason names the first fault of the instruction in the covered states, or a refused
  -- allocation
  abbrev pub IsNoFalseAlarm : Reason → Type 0
  IsNoFalseAlarm reason =
      IsFirstFault policy before.limits (CoveredBy before.old_strings before.knowledge)
      instruction reason after.off
      ⊎ (reason ≡ OutOfMemory)

  -- a step that doesn't allocate never returns OutOfMemory
  abbrev pub MayLackMemory : Reason → Type 0
  MayLackMemory reason = WantsNoMemory instruction.op → reason ≢ OutOfMemory

  -- the whole contract of a step
  pub record IsStep (answer : Result Moved Reason) : Type 0 where
    pub again : AnswersAsBefore before after answer
    pub goes_on : IfOk answer GoesOn
    pub covered : OnOk answer MeansInEachRun
    pub permitted : OnOk answer (AppendsPermitted policy before.imports after.imports)
    pub no_fault : OnOk answer PassesNoFault
    pub unknown : OnOk answer UnknownIsNeeded
    pub fails : IfFirst before answer FailsStep
    pub alarm : IfFirst before answer IsNoFalseAlarm
    pub memory : IfFirst before answer MayLackMemory
    pub kept : IfErr answer (RefusesForGood before after)
