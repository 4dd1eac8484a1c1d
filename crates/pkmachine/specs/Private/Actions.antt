-- The effect of each action of the machine.
use Rattle.std.specs.Prelude.{◌≡◌, ◌<◌, Bool, true, false, ⊤}
use Rattle.pkmachine.specs.declared.effects.Action.{Action}
use Rattle.pkmachine.specs.declared.effects.Action.TheVariants as action
use Rattle.pkmachine.specs.declared.effect.Gives.TheVariants as gives
use Rattle.pkmachine.specs.declared.effects.Operation.{Operation}
use Rattle.pkmachine.specs.Effects.{Effect, Operates, Moves, Stops, answers, effect_of}
use Rattle.pkmachine.specs.Effects.{is_old_string, pushes, NoName, Objects, Takes, Gives}
use Rattle.pkmachine.specs.Following.{is_described}
use Rattle.pkmachine.specs.Private.StepErrors.{IgnoresArgument, WellGiven}
use Rattle.pkmachine.specs.Private.Spelled.{IsTextLayout}
use Rattle.pkops.specs.Spelling.{layout_at}
use Rattle.pkops.specs.declared.Layout.{Layout}
use Rattle.pkops.specs.declared.Op.{Op}

-- the effect of an operation
abbrev pub effect_in : Operation → Effect
effect_in o = Operates o.takes o.names o.gives

-- the effect of an opcode if the decoding of old strings isn't set; an operation has the effect of
-- its own row
abbrev pub effect_by : Op → Action → Effect
effect_by o (action.Makes c) = pushes c
effect_by o action.MakesIntOrBool = Operates (Objects 0) NoName gives.MakesIntOrBool
effect_by o action.MakesText = Operates (Objects 0) NoName gives.MakesText
effect_by o action.ReadsOldString = answers (Objects 0)
effect_by o (action.Moves m) = Moves m
effect_by o action.Stops = Stops
effect_by o _ = effect_of o

-- the action decodes an old string
abbrev pub is_reading : Action → Bool
is_reading action.ReadsOldString = true
is_reading _ = false

-- the operation takes something, even if that is an empty slice
abbrev pub TakesSome : Takes → Type 0
TakesSome (Objects k) = 0 < k
TakesSome takes = ⊤

-- the operation does more than push a new object
abbrev pub IsNoPush : Takes → Gives → Type 0
IsNoPush takes (gives.Makes c) = TakesSome takes
IsNoPush takes g = ⊤

-- an operation that does more than push a new object, uses nothing of its argument but the names,
-- and takes a receiver if it leaves one
abbrev pub IsOperation : Effect → Type 0
IsOperation (Operates takes names g) = IsNoPush takes g × IgnoresArgument g × WellGiven g takes
IsOperation _ = ⊥

-- like IsOperation, for an operation that imports nothing
abbrev pub IsUnnamed : Effect → Type 0
IsUnnamed (Operates takes NoName g) = IsNoPush takes g × IgnoresArgument g × WellGiven g takes
IsUnnamed _ = ⊥

-- if the action of an opcode is Operates or Imports, its effect is such an operation
abbrev pub IsWell : Op → Action → Type 0
IsWell o action.Operates = IsUnnamed (effect_of o)
IsWell o action.Imports = IsOperation (effect_of o)
IsWell o _ = ⊤

-- an opcode whose action needs a text has a payload or a line
abbrev pub MaySpell : Action → Layout → Type 0
MaySpell action.MakesText l = IsTextLayout l
MaySpell action.ReadsOldString l = IsTextLayout l
MaySpell _ l = ⊤

-- an operation's object isn't described by its argument
abbrev pub IsPlain : Op → Action → Type 0
IsPlain o action.Operates = is_described o ≡ false
IsPlain o action.Imports = is_described o ≡ false
IsPlain o _ = ⊤

-- what the machine does at an opcode
pub record IsActionOf (o : Op) (a : Action) : Type 0 where
  pub effect : effect_of o ≡ effect_by o a
  pub old : is_old_string o ≡ is_reading a
  pub well : IsWell o a
  pub plain : IsPlain o a
  pub spelled : MaySpell a (layout_at o)
