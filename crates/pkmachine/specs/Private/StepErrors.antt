-- What the parts of a step return, in terms of the checker's knowledge.
use Rattle.std.specs.Prelude.{◌≡◌, ◌≤◌, ◌⊎◌, Bool, List, ◌∷◌, length, Option, Some, None}
use Rattle.std.specs.Prelude.{Result, Ok, Err, option_map, if◌then◌else◌, is_some, ⊤}
use Rattle.pkmachine.specs.Effects.{Effect, Operates, Moves, Stops, Raises, Takes, Gives}
use Rattle.pkmachine.specs.Effects.{MakesIntOrBool, MakesText, Leaves, Names, NoName}
use Rattle.pkstack.specs.Faults.{MoveMayWantMemory}
use Rattle.pkstack.specs.Places.{HasFirst}
use Rattle.pkmachine.specs.declared.operate.StepError.{StepError}
use Rattle.pkmachine.specs.declared.stepping.Moved.{Moved}
use Rattle.pkops.specs.Spelling.{Instruction}
use Rattle.pkops.specs.Limits.{Bounds}
use Rattle.pkops.specs.declared.Reason.{Reason}
use Rattle.pkops.specs.declared.Reason.TheVariants as reason
use Rattle.pkstack.specs.Shape.{Item}
use Rattle.pkmachine.specs.Runs.{Plain}
use Rattle.pkmachine.specs.declared.effect.Class.{Class}
use Rattle.pkmachine.specs.Knowledge.{Policy, Known, Knowledge, Progress, Refusal, WrongClass}
use Rattle.pkmachine.specs.Knowledge.{reason_of, permitted, unknown_pair, wrong_receiver, asked_of}
use Rattle.pkimport.specs.Import.{Asked, AskedPair, AskedUnknown, asked_shown, asks_more}
use Rattle.pkmachine.specs.View.{off_pair, moved_as}

-- what the policy says about an import
abbrev pub ruled : Policy → Asked → Result (Option Asked) Refusal
ruled p (AskedPair m n) = permitted p m n
ruled p AskedUnknown = unknown_pair p

-- listing an import may allocate
abbrev pub MayName : Names → Type 0
MayName NoName = ⊥
MayName names = ⊤

-- the check of the receiver, then of the names
abbrev pub judged : Policy → Names → Gives → Instruction → List Known
    → Result (Option Asked) Refusal
judged p names gives i ks =
    if wrong_receiver gives ks then Err WrongClass else asked_of p names i ks

-- the pair that a step error carries
abbrev pub pair_of_error : StepError → Option Asked
pair_of_error d = option_map (λ b. asked_shown b.value) d.pair

-- the step is refused for this reason and with this pair
abbrev pub IsRefusedFor : {A : Type 0} → Result A Refusal → Reason → Option Asked → Type 0
IsRefusedFor x r pair =
    (f : Refusal) × (x ≡ Err f) × (r ≡ reason_of f) × (pair ≡ off_pair f)

abbrev pub IsRefusedWith : {A : Type 0} → Result A Refusal → StepError → Type 0
IsRefusedWith x d = IsRefusedFor x d.reason (pair_of_error d)

-- the step is refused because an allocation was refused, so there is no pair
abbrev pub IsWantOfMemory : Reason → Option Asked → Type 0
IsWantOfMemory r pair = (r ≡ reason.OutOfMemory) × (pair ≡ None)

abbrev pub IsForMemory : StepError → Type 0
IsForMemory d = IsWantOfMemory d.reason (pair_of_error d)

-- the step goes on with this knowledge and these imports
abbrev pub Proceeds : Result Progress Refusal → Knowledge → List Asked → List Asked → Bool → Type 0
Proceeds x after before now b =
    (a : Option Asked)
    × (x ≡ Ok (record { after = after; import = a }))
    × (now ≡ asks_more a before)
    × (b ≡ is_some a)

-- an operation that only leaves its receiver doesn't allocate
abbrev pub MayGive : Gives → Type 0
MayGive (Leaves w) = ⊥
MayGive gives = ⊤

-- an operation may allocate for its import or for the object that it leaves
abbrev pub MayOperate : Names → Gives → Type 0
MayOperate names gives = MayName names ⊎ MayGive gives

-- an operation that leaves its receiver takes at least one object
abbrev pub WellGiven : Gives → Takes → Type 0
WellGiven (Leaves w) takes = HasFirst takes
WellGiven gives takes = ⊤

-- the object that the operation leaves doesn't depend on the instruction's argument
abbrev pub IgnoresArgument : Gives → Type 0
IgnoresArgument MakesText = ⊥
IgnoresArgument MakesIntOrBool = ⊥
IgnoresArgument gives = ⊤

-- the step goes on with this knowledge and these imports, and reports this outcome
abbrev pub GoesTo : Effect → Result Progress Refusal → Knowledge → List Asked → List Asked
    → Moved → Type 0
GoesTo e x after before now v =
    (a : Option Asked)
    × (x ≡ Ok (record { after = after; import = a }))
    × (now ≡ asks_more a before)
    × (v ≡ moved_as e a)

-- STOP is refused for this reason
abbrev pub IsStopFault : Result Progress Refusal → Reason → Type 0
IsStopFault x r = (f : Refusal) × (x ≡ Err f) × (r ≡ reason_of f) × (off_pair f ≡ None)

-- whether the step may allocate
abbrev pub MayWantMemory : Effect → Type 0
MayWantMemory (Operates takes names gives) = MayOperate names gives
MayWantMemory (Moves m) = MoveMayWantMemory m
MayWantMemory Stops = ⊥
MayWantMemory Raises = ⊤

-- the stack and the memo are within their limits
abbrev pub FitsLimits : Bounds → Knowledge → Type 0
FitsLimits limits known = (length known.entries ≤ limits.stack) × (length known.memo ≤ limits.memo)

-- the knowledge with one more object on top of the stack
abbrev pub with_item : Known → Knowledge → Knowledge
with_item v known = record known { entries = Item v ∷ known.entries }

-- the knowledge with a new object of this class on top of the stack
abbrev pub with_made : Class → Knowledge → Knowledge
with_made class known = with_item (Some (Plain class)) known
