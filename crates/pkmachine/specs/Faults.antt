-- The fault that each reason names, in terms of the states in which runs reach an instruction.
use Rattle.std.specs.Prelude.{◌≡◌, ◌≢◌, ℕ, ◌<◌, ⊤, Bool, true, false, List, [], ◌∷◌, length, Option}
use Rattle.std.specs.Prelude.{Some, None, Ok, ◌⊎◌, slice_get}
use Rattle.pkops.specs.Spelling.{Instruction}
use Rattle.pkops.specs.Limits.{Bounds}
use Rattle.pkops.specs.declared.Reason.{Reason}
use Rattle.pkops.specs.declared.Reason.TheVariants.{BrokenFrame, MissingMark, MissingItem}
use Rattle.pkops.specs.declared.Reason.TheVariants.{MissingMemo, OddItems, WrongClass, NotText}
use Rattle.pkops.specs.declared.Reason.TheVariants.{UnknownImport, ImportOffList, LeftOver}
use Rattle.pkops.specs.declared.Reason.TheVariants.{NotAscii, TooLarge}
use Rattle.pkmachine.specs.Effects.{Effect, Operates, effect_as, number_stored, Names, OfOperands}
use Rattle.pkmachine.specs.Effects.{Gives, Leaves, OldStrings}
use Rattle.pkstack.specs.Shape.{Breach, NoMark, NoItem, NoMemo, Odd, Taken, operands}
use Rattle.pkmachine.specs.Runs.{ObjectClass, Text, Object, State, Outcome, Stepped, WentOn, Raised}
use Rattle.pkmachine.specs.Runs.{Stopped, Stuck, step_as}
use Rattle.pkmachine.specs.Knowledge.{Policy, suits}
use Rattle.pkimport.specs.Import.{Asked, AskedPair}
use Rattle.pkmachine.specs.Covers.{Adds}

-- the machine made the object with this number, and this is its class
abbrev pub IsMade : List Object → ℕ → ObjectClass → Type 0
IsMade objects number kind =
    slice_get objects number ≡ Some (record { class_of = kind; made = true })

-- the class is text
abbrev pub is_text : ObjectClass → Bool
is_text (Text characters) = true
is_text _ = false

-- the first operand is the receiver; the machine made it, and its class is wrong
abbrev pub WrongReceiver : Gives → List Object → List ℕ → Type 0
WrongReceiver (Leaves wanted) objects (receiver ∷ others) =
    (kind : ObjectClass) × IsMade objects receiver kind × (suits wanted kind ≡ false)
WrongReceiver _ objects numbers = ⊥

-- the machine made the object with this number, and it isn't text
abbrev pub IsNonText : List Object → ℕ → Type 0
IsNonText objects number =
    (kind : ObjectClass) × IsMade objects number kind × (is_text kind ≡ false)

-- the machine made one of these two, and it isn't text
abbrev pub NonText : Names → List Object → List ℕ → Type 0
NonText OfOperands objects (first ∷ second ∷ []) =
    IsNonText objects first ⊎ IsNonText objects second
NonText _ objects numbers = ⊥

-- the operation finds operands with this property
abbrev Finds : (Names → Gives → List Object → List ℕ → Type 0) → Effect → State → Type 0
Finds Holds (Operates takes names gives) state =
    (taken : Taken ℕ)
    × (operands takes state.shape.entries ≡ Ok taken)
    × Holds names gives state.objects taken.operands
Finds Holds _ state = ⊥

-- the instruction finds a receiver that the machine made and whose class is wrong
abbrev pub HasWrongReceiver : Effect → State → Type 0
HasWrongReceiver = Finds (λ names. WrongReceiver)

-- the instruction finds a name that the machine made and that isn't text
abbrev pub HasNonText : Effect → State → Type 0
HasNonText = Finds (λ names gives. NonText names)

-- there is a list, and the pair isn't on it
abbrev pub IsOff : Policy → List ℕ → List ℕ → Type 0
IsOff None module_name name = ⊥
IsOff (Some list) module_name name = list module_name name ≡ false

-- the step imports this pair and no other
abbrev pub AsksFor : List ℕ → List ℕ → State → Stepped → Type 0
AsksFor module_name name state (WentOn after) =
    Adds (Some (AskedPair module_name name)) state.events after.events
AsksFor module_name name state (Raised after) =
    Adds (Some (AskedPair module_name name)) state.events after.events
AsksFor module_name name state _ = ⊥

-- STOP leaves an object or a mark below the result
abbrev pub LeavesMore : Stepped → Type 0
LeavesMore (Stopped result after) = after.shape.entries ≢ []
LeavesMore _ = ⊥

-- the step raises
abbrev pub IsRaise : Stepped → Type 0
IsRaise (Raised after) = ⊤
IsRaise _ = ⊥

-- the stack or the memo has more entries than its limit, or the instruction stores into the memo
-- under this number, which exceeds the limit
abbrev pub IsPast : Bounds → ℕ → State → Type 0
IsPast limits number state =
    (limits.stack < length state.shape.entries)
    ⊎ ((limits.memo < length state.shape.memo) ⊎ (limits.numbers < number))

-- the step goes on and exceeds a limit
abbrev pub GoesOnPast : Bounds → ℕ → Stepped → Type 0
GoesOnPast limits number (WentOn after) = IsPast limits number after
GoesOnPast limits number (Stopped result after) = IsPast limits number after
GoesOnPast limits number _ = ⊥

-- the runs that reach an instruction
pub record Arrivals : Type 1 where
  -- how these runs decode old strings
  pub setting : OldStrings
  -- the states in which any run reaches it, for claims about every run
  pub any : State → Type 0
  -- the states in which a witness run reaches it, and the outcomes that the witness may have there,
  -- for claims that some run exists
  pub some : State → Type 0
  pub outcome : Outcome → Type 0

-- these runs, any of which may be the witness; used for claims that no run does something
abbrev pub everyone : Arrivals → Arrivals
everyone here = record { setting = here.setting; any = here.any; some = here.any; outcome = λ _. ⊤ }

-- some run gets here, and the state of every run that gets here has this property
pub record InEachRun (here : Arrivals) (Holds : State → Type 0) : Type 0 where
  pub each : (state : State) → here.any state → Holds state
  pub some : (state : State) × here.some state

-- what a step from a state does, whatever the outcome
module _ (setting : OldStrings) (instruction : Instruction) where
  -- it can't be executed because this is missing
  abbrev pub IsStuck : Breach → State → Type 0
  IsStuck breach state =
      (outcome : Outcome) → step_as setting instruction state outcome ≡ Stuck breach

  -- it is a STOP and leaves more than the result
  abbrev pub LeavesMoreThere : State → Type 0
  LeavesMoreThere state =
      (outcome : Outcome) → LeavesMore (step_as setting instruction state outcome)

  -- it raises
  abbrev pub RaisesThere : State → Type 0
  RaisesThere state = (outcome : Outcome) → IsRaise (step_as setting instruction state outcome)

  -- it imports this pair
  abbrev pub AsksAlways : List ℕ → List ℕ → State → Type 0
  AsksAlways module_name name state =
      (outcome : Outcome)
      → AsksFor module_name name state (step_as setting instruction state outcome)

module _ (here : Arrivals) (instruction : Instruction) where
  -- some run imports this pair here
  abbrev pub AsksOnce : List ℕ → List ℕ → Type 0
  AsksOnce module_name name =
      (state : State)
      × (outcome : Outcome)
      × here.some state
      × here.outcome outcome
      × AsksFor module_name name state (step_as here.setting instruction state outcome)

  -- two runs import different pairs here, and this is the first of them
  abbrev pub AsksOtherThan : List ℕ → List ℕ → Type 0
  AsksOtherThan module_name name =
      AsksOnce module_name name
      × ((other_module : List ℕ)
      × (other_name : List ℕ)
      × AsksOnce other_module other_name
      × ((module_name ≡ other_module) → (name ≡ other_name) → ⊥))

  -- two runs import different pairs here
  abbrev pub AsksForTwo : Type 0
  AsksForTwo = (module_name : List ℕ) × (name : List ℕ) × AsksOtherThan module_name name

-- every run that gets here imports this pair, which is off the list
abbrev pub AsksOffList : Policy → Arrivals → Instruction → List ℕ → List ℕ → Type 0
AsksOffList policy here instruction module_name name =
    InEachRun here (AsksAlways here.setting instruction module_name name)
    × IsOff policy module_name name

-- some run gets here and goes on, and then its stack or memo has more entries than the limits, or
-- it has stored under a memo number above the limit
abbrev pub GoesPast : Bounds → Arrivals → Instruction → Type 0
GoesPast limits here instruction =
    (state : State)
    × (outcome : Outcome)
    × here.some state
    × here.outcome outcome
    × GoesOnPast limits (number_stored (effect_as here.setting instruction) instruction)
    (step_as here.setting instruction state outcome)

-- the fault that a reason names, for an instruction that these runs reach; reasons that concern
-- reading, frames or memory name none
module _ (policy : Policy) (limits : Bounds) (here : Arrivals) (instruction : Instruction) where
  abbrev pub HasFaultHere : Reason → Type 0
  HasFaultHere MissingMark = InEachRun here (IsStuck here.setting instruction NoMark)
  HasFaultHere MissingItem = InEachRun here (IsStuck here.setting instruction NoItem)
  HasFaultHere (MissingMemo number) =
      InEachRun here (IsStuck here.setting instruction (NoMemo number))
  HasFaultHere OddItems = InEachRun here (IsStuck here.setting instruction Odd)
  HasFaultHere WrongClass =
      InEachRun here (HasWrongReceiver (effect_as here.setting instruction))
  HasFaultHere NotText = InEachRun here (HasNonText (effect_as here.setting instruction))
  HasFaultHere UnknownImport =
      (module_name : List ℕ)
      × (name : List ℕ)
      × AsksOtherThan here instruction module_name name
      × IsOff policy module_name name
  HasFaultHere ImportOffList =
      (module_name : List ℕ)
      × (name : List ℕ)
      × AsksOffList policy here instruction module_name name
  HasFaultHere LeftOver = InEachRun here (LeavesMoreThere here.setting instruction)
  HasFaultHere NotAscii = InEachRun here (RaisesThere here.setting instruction)
  HasFaultHere TooLarge = GoesPast limits here instruction
  HasFaultHere _ = ⊥

-- the position of a reason in the order in which they are tried for an instruction that was read
abbrev pub rank : Reason → ℕ
rank BrokenFrame = 1
rank MissingMark = 2
rank MissingItem = 3
rank (MissingMemo number) = 4
rank OddItems = 5
rank WrongClass = 6
rank NotText = 7
rank UnknownImport = 8
rank ImportOffList = 9
rank LeftOver = 10
rank NotAscii = 11
rank TooLarge = 12
rank _ = 0

-- one reason is tried before the other
abbrev pub IsEarlier : Reason → Reason → Type 0
IsEarlier earlier reason = rank earlier < rank reason

-- a refusal carries a pair exactly if an import is off the list; then every run imports this pair
-- here
abbrev pub IsPairOf : Policy → Arrivals → Instruction → Reason → Option Asked → Type 0
IsPairOf policy here instruction ImportOffList (Some (AskedPair module_name name)) =
    AsksOffList policy here instruction module_name name
IsPairOf policy here instruction ImportOffList _ = ⊥
IsPairOf policy here instruction _ pair = pair ≡ None

-- the instruction has the fault that the reason names and none that is tried earlier; the pair is
-- that of an import off the list
pub record IsFirstFault (policy : Policy) (limits : Bounds) (here : Arrivals)
    (instruction : Instruction) (reason : Reason) (pair : Option Asked) : Type 0 where
  pub fault : HasFaultHere policy limits here instruction reason
  pub first : (earlier : Reason) → IsEarlier earlier reason
      → HasFaultHere policy limits (everyone here) instruction earlier → ⊥
  pub asks : IsPairOf policy here instruction reason pair

-- the instruction has no fault
abbrev pub HasNoFault : Policy → Bounds → Arrivals → Instruction → Type 0
HasNoFault policy limits here instruction =
    (reason : Reason) → HasFaultHere policy limits (everyone here) instruction reason → ⊥
