-- What a step of the machine does to what it holds, and when it is refused.
use Rattle.std.specs.Prelude.{◌≡◌, ◌⊎◌, IfErr, None, OnErr, OnOk, Option, Result, true}
use Rattle.pkmachine.specs.declared.stepping.Moved.{Moved}
use Rattle.pkmachine.specs.declared.stepping.Moved.TheVariants.{On}
use Rattle.pkmachine.specs.declared.config.MachineConfig.{MachineConfig}
use Rattle.pkmachine.specs.Effects.{Effect, effect_as, is_old_string, number_stored}
use Rattle.pkmachine.specs.Knowledge.{Knowledge, Policy, Progress, Refusal, learn, within}
use Rattle.pkimport.specs.Import.{Asked}
use Rattle.pkmachine.specs.Private.StepErrors.{FitsLimits, GoesTo, IsRefusedFor, IsWantOfMemory}
use Rattle.pkmachine.specs.Private.StepErrors.{MayWantMemory}
use Rattle.pkmachine.specs.Private.Slots.{StateView}
use Rattle.pkmachine.specs.Following.{Follower}
use Rattle.pkmachine.specs.Private.Items.{CarriedState, with_made_item}
use Rattle.pkmachine.specs.Private.Spelled.{IsSpelled}
use Rattle.pkstack.specs.Shape.{and_then}
use Rattle.pkmachine.specs.View.{texts_after}
use Rattle.pkops.specs.Limits.{Bounds}
use Rattle.pkops.specs.Spelling.{Instruction}
use Rattle.pkops.specs.declared.Reason.{Reason}

module _ (p : Policy) (limits : Bounds) (e : Effect) (i : Instruction) where
  -- the step of an instruction with this effect, with the limits checked
  abbrev pub learned : Knowledge → Result Progress Refusal
  learned known = and_then (learn p e i known) (within limits (number_stored e i))

  -- the step leads from `old` to `new`, and reports this
  abbrev pub LeadsTo : StateView → StateView → Moved → Type 0
  LeadsTo old new moved =
      GoesTo e (learned old.knowledge) new.knowledge old.imports new.imports moved

  -- the step is refused for this reason and with this pair, or because an allocation was refused
  abbrev pub IsStepFault : Knowledge → Reason → Option Asked → Type 0
  IsStepFault known r pair =
      IsRefusedFor (learned known) r pair ⊎ (MayWantMemory e × IsWantOfMemory r pair)

-- under this configuration
module _ (config : MachineConfig) (p : Policy) (i : Instruction) where
  -- like LeadsTo
  abbrev pub Advances : StateView → StateView → Moved → Type 0
  Advances old new moved =
      LeadsTo p config.limits (effect_as config.old_strings i) i old new moved

  -- like IsStepFault
  abbrev pub IsAdvanceFault : Knowledge → Reason → Option Asked → Type 0
  IsAdvanceFault known r pair =
      IsStepFault p config.limits (effect_as config.old_strings i) i known r pair

-- an old string, with an argument that spells one
abbrev pub IsOldString : Instruction → Type 0
IsOldString i = (is_old_string i.op ≡ true) × IsSpelled i.arg

-- what the step of an old string answers, and what it does, whatever the policy; the domain follows
pub record HasReadOldString {A I D : Type 0} (follows : Follower I D) (config : MachineConfig)
    (i : Instruction) (old new : CarriedState I D) (answer : Result A Reason) : Type 0 where
  pub ok : (p : Policy) → OnOk answer (Advances config p i old.view new.view On)
  pub carried : OnOk answer (new.carried ≡ with_made_item follows i old.carried)
  pub room : OnOk answer (FitsLimits config.limits new.view.knowledge)
  pub texts : OnOk answer (new.view.texts
      ≡ texts_after (effect_as config.old_strings i) old.view.texts)
  pub kept : OnErr answer (new.view ≡ old.view)
  pub err : (p : Policy) → IfErr answer (λ r. IsAdvanceFault config p i old.view.knowledge r None)
