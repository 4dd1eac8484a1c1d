-- The runs of a pickle: objects, states, events, and one step for each outcome of an operation. An
-- operation may answer anything that any unpickler could answer, so what holds of every run holds
-- of every unpickler.
use Rattle.std.specs.Prelude.{◌≡◌, ℕ, ⊤, All, Bool, true, false, if◌then◌else◌, ltb, List, [], ◌∷◌}
use Rattle.std.specs.Prelude.{◌++◌, length, map, Option, Some, None, Result, Ok, Err, slice_get}
use Rattle.std.specs.Prelude.{unwrap_or, encode_utf8_all}
use Rattle.std.specs.Str.{IsUtf8}
use Rattle.pkops.specs.Spelling.{Instruction}
use Rattle.pkops.specs.Text.{text_bytes}
use Rattle.pkops.specs.OldBytes.{old_bytes}
use Rattle.pkops.specs.Operands.{memo_number, names_bool, pair_named}
use Rattle.pkmachine.specs.declared.effect.Class.{Class}
use Rattle.pkmachine.specs.declared.effect.Class.TheVariants as class
use Rattle.pkmachine.specs.Effects.{Effect, Operates, Moves, Stops, Raises, effect_as, Names}
use Rattle.pkmachine.specs.Effects.{NoName, OfArgument, OfOperands, Gives, Makes, MakesIntOrBool}
use Rattle.pkmachine.specs.Effects.{MakesText, MayMake, Answers, Leaves, OldStrings, Unknown}
use Rattle.pkstack.specs.Shape.{Breach, Entry, Shape, Taken, operands, put, moved, top}

-- what an object is: a text with its characters in UTF-8, an object of one of the classes that
-- opcodes make, or anything else
pub data ObjectClass : Type 0 where
  Text : List ℕ → ObjectClass
  Plain : Class → ObjectClass
  Foreign : ObjectClass

-- an object: its class, and whether the machine made it or an operation answered it
pub record Object : Type 0 where
  pub class_of : ObjectClass
  pub made : Bool

-- what can be observed of a run: it imports a pair, or executes an instruction on operands, from
-- the bottom up, with the object that it makes or answers
pub data Event : Type 0 where
  Import : List ℕ → List ℕ → Event
  Did : Instruction → List ℕ → Option ℕ → Event

-- the stack and memo, which hold the numbers of objects; the objects so far, in the order in which
-- they appeared; the events so far
pub record State : Type 0 where
  pub shape : Shape ℕ
  pub objects : List Object
  pub events : List Event

-- the outcome of an operation: it raises, or it answers the object with this number or, if there is
-- none, a new object of this class
pub data Outcome : Type 0 where
  Raise : Outcome
  Go : ℕ → ObjectClass → Outcome

-- the class of a possible object: the characters of a text are UTF-8
abbrev pub CanBe : ObjectClass → Type 0
CanBe (Text characters) = IsUtf8 characters
CanBe _ = ⊤

-- a possible outcome: the answer is a possible object
abbrev pub CanCome : Outcome → Type 0
CanCome Raise = ⊤
CanCome (Go number kind) = CanBe kind

-- every answered object is possible; those that the machine made come from instructions
abbrev pub AnswersCanBe : List Object → Type 0
AnswersCanBe objects = All (λ object. object.made ≡ false → CanBe object.class_of) objects

-- where a step leads: it goes on, raises, stops with this result, or is stuck because something is
-- missing
pub data Stepped : Type 0 where
  WentOn : State → Stepped
  Raised : State → Stepped
  Stopped : ℕ → State → Stepped
  Stuck : Breach → Stepped

-- the import of an operation: none, a pair, or operands that aren't both text
pub data Named : Type 0 where
  NoImport : Named
  Pair : List ℕ → List ℕ → Named
  NotTexts : Named

-- the class of the object with a number
abbrev pub class_at : List Object → ℕ → Option ObjectClass
class_at objects number =
    elim (slice_get objects number) [ None ↦ None | Some object ↦ Some object.class_of ]

-- a module and a name, if both are text
abbrev pub texts_named : Option ObjectClass → Option ObjectClass → Named
texts_named (Some (Text module_name)) (Some (Text name)) = Pair module_name name
texts_named first second = NotTexts

-- applies a function to the two elements, if there are two
abbrev pub of_two : {A B : Type 0} → List A → B → (A → A → B) → B
of_two (first ∷ second ∷ []) otherwise function = function first second
of_two others otherwise function = otherwise

-- the pair that an argument names
abbrev pub argument_named : Option (List ℕ × List ℕ) → Named
argument_named (Some pair) = Pair pair.0 pair.1
argument_named None = NoImport

-- the import of an instruction with operands of these classes
abbrev pub named : Names → Instruction → List (Option ObjectClass) → Named
named NoName instruction classes = NoImport
named OfArgument instruction classes = argument_named (pair_named instruction)
named OfOperands instruction classes = of_two classes NoImport texts_named

-- whether the operation may raise or answer
abbrev pub asks : Gives → Bool
asks (Makes kind) = false
asks MakesIntOrBool = false
asks MakesText = false
asks _ = true

-- INT's arguments 00 and 01 are False and True
abbrev pub int_or_bool : Instruction → Class
int_or_bool instruction = if names_bool instruction then class.Bool else class.Int

-- the characters of a text opcode's argument; for an old string, those with the codes of its bytes
abbrev pub text : Instruction → List ℕ
text instruction =
    unwrap_or (text_bytes instruction) (encode_utf8_all (unwrap_or (old_bytes instruction) []))

-- the objects, with a new one that was answered
abbrev pub with_answer : ObjectClass → List Object → List Object
with_answer kind objects = objects ++ record { class_of = kind; made = false } ∷ []

-- the object that an operation answers, and the objects afterwards
abbrev pub answered : ℕ → ObjectClass → List Object → Option ℕ × List Object
answered number kind objects =
    if ltb number (length objects)
    then (Some number, objects)
    else (Some (length objects), with_answer kind objects)

-- the object that the machine makes, and the objects afterwards
abbrev pub made_new : ObjectClass → List Object → Option ℕ × List Object
made_new kind objects =
    (Some (length objects), objects ++ record { class_of = kind; made = true } ∷ [])

-- the object that an operation makes or answers, if any, and the objects afterwards
abbrev pub given : Gives → Instruction → ℕ → ObjectClass → List Object → Option ℕ × List Object
given (Makes made) instruction number kind objects = made_new (Plain made) objects
given MakesIntOrBool instruction number kind objects =
    made_new (Plain (int_or_bool instruction)) objects
given MakesText instruction number kind objects = made_new (Text (text instruction)) objects
given (MayMake made) instruction number kind objects = made_new (Plain made) objects
given Answers instruction number kind objects = answered number kind objects
given (Leaves wanted) instruction number kind objects = (None, objects)

-- the state with one more event
abbrev pub with_event : Event → State → State
with_event event state = record state { events = state.events ++ event ∷ [] }

-- the step of an operation that goes on
abbrev pub gone_on : Gives → Instruction → Taken ℕ → ℕ → ObjectClass → State → Stepped
gone_on gives instruction taken number kind state =
    let result = given gives instruction number kind state.objects in
    WentOn (record {
      shape = record {
        entries = put result.0 taken.operands ++ taken.below;
        memo = state.shape.memo;
      };
      objects = result.1;
      events = state.events ++ Did instruction taken.operands result.0 ∷ [];
    })

-- the step of an operation with this outcome, which is ignored unless the operation may raise or
-- answer
abbrev pub come_of : Bool → Gives → Instruction → Taken ℕ → Outcome → State → Stepped
come_of true gives instruction taken Raise state =
    Raised (with_event (Did instruction taken.operands None) state)
come_of true gives instruction taken (Go number kind) state =
    gone_on gives instruction taken number kind state
come_of false gives instruction taken outcome state =
    gone_on gives instruction taken 0 Foreign state

-- the step of an operation, beginning with its import; without two texts for the names, it raises
abbrev pub operated : Named → Gives → Instruction → Taken ℕ → Outcome → State → Stepped
operated NoImport gives instruction taken outcome state =
    come_of (asks gives) gives instruction taken outcome state
operated (Pair module_name name) gives instruction taken outcome state =
    come_of (asks gives) gives instruction taken outcome
    (with_event (Import module_name name) state)
operated NotTexts gives instruction taken outcome state =
    Raised (with_event (Did instruction taken.operands None) state)

-- the step of an operation, given its operands; it is stuck without them
abbrev pub operate_step : Names → Gives → Instruction → Outcome → State
    → Result (Taken ℕ) Breach → Stepped
operate_step names gives instruction outcome state (Ok taken) =
    let import = named names instruction (map (class_at state.objects) taken.operands) in
    operated import gives instruction taken outcome state
operate_step names gives instruction outcome state (Err breach) = Stuck breach

-- the step of a move, given its result; it is stuck if something is missing
abbrev pub move_step : State → Result (Shape ℕ) Breach → Stepped
move_step state (Ok shape) = WentOn (record state { shape = shape })
move_step state (Err breach) = Stuck breach

-- the step of STOP, which takes the result
abbrev pub stop_step : State → Result (ℕ × List (Entry ℕ)) Breach → Stepped
stop_step state (Ok taken) =
    Stopped taken.0 (record state { shape = record state.shape { entries = taken.1 } })
stop_step state (Err breach) = Stuck breach

-- what an instruction with this effect does
abbrev pub perform : Effect → Instruction → State → Outcome → Stepped
perform (Operates takes names gives) instruction state outcome =
    operate_step names gives instruction outcome state (operands takes state.shape.entries)
perform (Moves move) instruction state outcome =
    move_step state (moved move (memo_number instruction) state.shape)
perform Stops instruction state outcome = stop_step state (top state.shape.entries)
perform Raises instruction state outcome = Raised (with_event (Did instruction [] None) state)

-- one step of a run, given the decoding of old strings
abbrev pub step_as : OldStrings → Instruction → State → Outcome → Stepped
step_as setting instruction state outcome =
    perform (effect_as setting instruction) instruction state outcome

-- one step of a run, if the decoding isn't set
abbrev pub step : Instruction → State → Outcome → Stepped
step = step_as Unknown

-- whether the step uses an outcome
abbrev pub effect_asks : Effect → Bool
effect_asks (Operates takes names gives) = asks gives
effect_asks _ = false

-- a run begins with an empty stack and memo
abbrev pub start : State
start = record { shape = record { entries = []; memo = [] }; objects = []; events = [] }
