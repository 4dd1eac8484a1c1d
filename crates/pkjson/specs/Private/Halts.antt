-- What a `Halt` means for its step.
use Rattle.std.specs.Prelude.{◌≡◌, Bool, false, Some, Result}
use Rattle.pkstack.specs.Shape.{Breach}
use Rattle.pkjson.specs.declared.halt.Halt.{Halt}
use Rattle.pkjson.specs.declared.halt.Halt.TheVariants.{OtherKey, LargeNumber, Lacks, OutOfMemory}
use Rattle.pkops.specs.Spelling.{Instruction}
use Rattle.pkjson.specs.declared.action.Action.{Action}
use Rattle.pkjson.specs.Plain as fault
use Rattle.pkjson.specs.Private.Arena.{Arena}
use Rattle.pkjson.specs.Private.PlainActions.{acted, fault_acted, IsLacking}

-- the integer does not fit, or an allocation was refused
abbrev pub IsNoKind : Bool → Halt → Type 0
IsNoKind fits LargeNumber = fits ≡ false
IsNoKind fits OutOfMemory = Unit {0}
IsNoKind fits halt = ⊥

-- something is missing from the stack or the memo, or an allocation was refused
abbrev pub IsWant : {A : Type 0} → Result A Breach → Halt → Type 0
IsWant x Lacks = IsLacking x
IsWant x OutOfMemory = Unit {0}
IsWant x halt = ⊥

-- the key isn't text, the integer doesn't fit, something is missing, or an allocation was refused
abbrev pub IsHalted : Action → Instruction → Arena → Halt → Type 0
IsHalted action i a OtherKey = fault_acted action i a ≡ Some fault.OtherKey
IsHalted action i a LargeNumber = fault_acted action i a ≡ Some fault.LargeNumber
IsHalted action i a Lacks = IsLacking (acted action i a)
IsHalted action i a OutOfMemory = Unit {0}
