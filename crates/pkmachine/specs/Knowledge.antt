-- What the checker knows about the stack and the memo in all runs at once, how an instruction
-- changes it, and what the checker refuses.
use Rattle.std.specs.Prelude.{ℕ, Bool, true, false, not, if◌then◌else◌, ltb, List, [], ◌∷◌, ◌++◌}
use Rattle.std.specs.Prelude.{◌||◌, length, Option, Some, None, Result, Ok, Err}
use Rattle.pkops.specs.Spelling.{Instruction}
use Rattle.pkops.specs.Operands.{memo_number, pair_named}
use Rattle.pkops.specs.Limits.{Bounds}
use Rattle.pkops.specs.declared.Reason.{Reason}
use Rattle.pkops.specs.declared.Reason.TheVariants as reason
use Rattle.pkmachine.specs.declared.effect.Class.TheVariants as class
use Rattle.pkmachine.specs.Effects.{Effect, Operates, Moves, Stops, Raises, effect_as}
use Rattle.pkmachine.specs.Effects.{number_stored, Names, NoName, OfArgument, OfOperands, Wanted}
use Rattle.pkmachine.specs.Effects.{WantsAny, WantsList, WantsDict, WantsSet, Gives, Makes}
use Rattle.pkmachine.specs.Effects.{MakesIntOrBool, MakesText, MayMake, Answers, Leaves, OldStrings}
use Rattle.pkstack.specs.Shape.{Breach, Entry, Shape, Taken}
use Rattle.pkstack.specs.Shape.{operands, put, moved, top, and_then, unless, reason_of_breach}
use Rattle.pkmachine.specs.Runs.{ObjectClass, Text, Plain, int_or_bool, text, of_two}
use Rattle.pkimport.specs.Import.{Asked, AskedPair, AskedUnknown}

-- why the checker refuses an instruction, in the order in which it tries the reasons: something is
-- missing; the receiver has a wrong class; a name isn't text; a name isn't known, or the pair is
-- off the list; something is left at STOP; an old string isn't ASCII; the stack, the memo or a memo
-- number exceeds its limit
pub data Refusal : Type 0 where
  Lacks : Breach → Refusal
  WrongClass : Refusal
  NotText : Refusal
  UnknownImport : Refusal
  OffList : List ℕ → List ℕ → Refusal
  LeftOver : Refusal
  NotAscii : Refusal
  TooLarge : Refusal

-- the reason that the answer gives
abbrev pub reason_of : Refusal → Reason
reason_of (Lacks breach) = reason_of_breach breach
reason_of WrongClass = reason.WrongClass
reason_of NotText = reason.NotText
reason_of UnknownImport = reason.UnknownImport
reason_of (OffList module_name name) = reason.ImportOffList
reason_of LeftOver = reason.LeftOver
reason_of NotAscii = reason.NotAscii
reason_of TooLarge = reason.TooLarge

-- what is known about an object: its class if the machine made it, and nothing if an operation
-- answered it
abbrev pub Known : Type 0
Known = Option ObjectClass

-- what is known about the stack and the memo
abbrev pub Knowledge : Type 0
Knowledge = Shape Known

-- which pairs are on the list, or None if every import is permitted
abbrev pub Policy : Type 0
Policy = Option (List ℕ → List ℕ → Bool)

-- where a step of the checker leads: its knowledge after the step, and the import that it lists
pub record Progress : Type 0 where
  pub after : Knowledge
  pub import : Option Asked

-- turns a breach into a refusal, which is the first reason that is tried
abbrev pub lacking : {A : Type 0} → Result A Breach → Result A Refusal
lacking (Ok found) = Ok found
lacking (Err breach) = Err (Lacks breach)

-- whether an object of this class can be the receiver
abbrev pub suits : Wanted → ObjectClass → Bool
suits WantsAny kind = true
suits WantsList (Plain class.List) = true
suits WantsDict (Plain class.Dict) = true
suits WantsSet (Plain class.Set) = true
suits wanted kind = false

-- the first of these is known to have a wrong class
abbrev pub wrong_first : Wanted → List Known → Bool
wrong_first wanted (Some kind ∷ others) = not (suits wanted kind)
wrong_first wanted operands = false

-- the receiver, if there is one, is known to have a wrong class
abbrev pub wrong_receiver : Gives → List Known → Bool
wrong_receiver (Leaves wanted) operands = wrong_first wanted operands
wrong_receiver gives operands = false

-- the import of this pair, unless it is off the list
abbrev pub permitted : Policy → List ℕ → List ℕ → Result (Option Asked) Refusal
permitted None module_name name = Ok (Some (AskedPair module_name name))
permitted (Some list) module_name name =
    if list module_name name
    then Ok (Some (AskedPair module_name name))
    else Err (OffList module_name name)

-- the import of a pair that isn't known; no list permits it
abbrev pub unknown_pair : Policy → Result (Option Asked) Refusal
unknown_pair None = Ok (Some AskedUnknown)
unknown_pair (Some list) = Err UnknownImport

-- the refusal of an object that is known not to be text
abbrev pub text_fault : Known → Option Refusal
text_fault None = None
text_fault (Some (Text characters)) = None
text_fault (Some kind) = Some NotText

-- the import named by two objects, neither of which is known not to be text
abbrev pub texts_asked : Policy → Known → Known → Result (Option Asked) Refusal
texts_asked policy (Some (Text module_name)) (Some (Text name)) = permitted policy module_name name
texts_asked policy first second = unknown_pair policy

-- the import named by two objects
abbrev pub operands_asked : Policy → Known → Known → Result (Option Asked) Refusal
operands_asked policy first second =
    unless (text_fault first) (unless (text_fault second) (texts_asked policy first second))

-- the import named by the argument
abbrev pub argument_asked : Policy → Option (List ℕ × List ℕ) → Result (Option Asked) Refusal
argument_asked policy (Some pair) = permitted policy pair.0 pair.1
argument_asked policy None = Ok None

-- the import of an instruction with these operands
abbrev pub asked_of : Policy → Names → Instruction → List Known → Result (Option Asked) Refusal
asked_of policy NoName instruction operands = Ok None
asked_of policy OfArgument instruction operands = argument_asked policy (pair_named instruction)
asked_of policy OfOperands instruction operands = of_two operands (Ok None) (operands_asked policy)

-- what is known about the object that an operation leaves; None if that is its receiver
abbrev pub known_given : Gives → Instruction → Option Known
known_given (Makes kind) instruction = Some (Some (Plain kind))
known_given MakesIntOrBool instruction = Some (Some (Plain (int_or_bool instruction)))
known_given MakesText instruction = Some (Some (Text (text instruction)))
known_given (MayMake kind) instruction = Some (Some (Plain kind))
known_given Answers instruction = Some None
known_given (Leaves wanted) instruction = None

-- the stack or the memo has more entries than the limits, or this memo number exceeds its limit
abbrev pub is_past : Bounds → ℕ → Knowledge → Bool
is_past limits number known =
    ltb limits.stack (length known.entries)
    || (ltb limits.memo (length known.memo) || ltb limits.numbers number)

-- the progress, unless it exceeds a limit; `number` is the memo number under which the instruction
-- stores
abbrev pub within : Bounds → ℕ → Progress → Result Progress Refusal
within limits number progress =
    if is_past limits number progress.after then Err TooLarge else Ok progress

-- the refusal if anything is left on the stack
abbrev pub left_over : List (Entry Known) → Option Refusal
left_over [] = None
left_over (entry ∷ entries) = Some LeftOver

-- the knowledge after an operation with these operands and this import
abbrev pub operated_on : Gives → Instruction → Knowledge → Taken Known → Option Asked → Progress
operated_on gives instruction known taken import = record {
  after = record {
    entries = put (known_given gives instruction) taken.operands ++ taken.below;
    memo = known.memo;
  };
  import = import;
}

-- the step of an operation, given its operands; the receiver is checked before the import
abbrev pub operate_learned : Policy → Names → Gives → Instruction → Knowledge
    → Result (Taken Known) Breach → Result Progress Refusal
operate_learned policy names gives instruction known found =
    and_then (lacking found) (λ taken.
    if wrong_receiver gives taken.operands
    then Err WrongClass
    else and_then (asked_of policy names instruction taken.operands) (λ import.
    Ok (operated_on gives instruction known taken import)))

-- the step of a move
abbrev pub move_learned : Result Knowledge Breach → Result Progress Refusal
move_learned moved =
    and_then (lacking moved) (λ after. Ok (record { after = after; import = None }))

-- the step of STOP, which requires that nothing is left below the result
abbrev pub stop_learned : List (ℕ × Known) → Result (Known × List (Entry Known)) Breach
    → Result Progress Refusal
stop_learned memo found =
    and_then (lacking found) (λ taken.
    unless (left_over taken.1)
    (Ok (record { after = record { entries = taken.1; memo = memo }; import = None })))

-- the step of an instruction with this effect, before limits are checked
abbrev pub learn : Policy → Effect → Instruction → Knowledge → Result Progress Refusal
learn policy (Operates takes names gives) instruction known =
    operate_learned policy names gives instruction known (operands takes known.entries)
learn policy (Moves move) instruction known =
    move_learned (moved move (memo_number instruction) known)
learn policy Stops instruction known = stop_learned known.memo (top known.entries)
learn policy Raises instruction known = Err NotAscii

-- one step of the checker, given the decoding of old strings
abbrev pub advance : OldStrings → Policy → Bounds → Instruction → Knowledge
    → Result Progress Refusal
advance setting policy limits instruction known =
    let effect = effect_as setting instruction in
    and_then (learn policy effect instruction known)
    (within limits (number_stored effect instruction))

-- the knowledge at the start: an empty stack and an empty memo
abbrev pub nothing_known : Knowledge
nothing_known = record { entries = []; memo = [] }
