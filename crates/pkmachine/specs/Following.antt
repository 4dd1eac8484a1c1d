-- How a domain follows objects along with the machine. What it keeps of the objects and what the
-- machine knows of them are two views of one stack and one memo: the same effects move both.
use Rattle.std.specs.Prelude.{◌≡◌, ◌||◌, ◌++◌, ℕ, zero, Bool, true, false, List, [], length}
use Rattle.std.specs.Prelude.{Option, Some, None, Result, Ok}
use Rattle.pkops.specs.Spelling.{Instruction, spelling}
use Rattle.pkops.specs.declared.Op.{Op}
use Rattle.pkops.specs.Operands.{memo_number}
use Rattle.pkstack.specs.declared.Move.{Move}
use Rattle.pkstack.specs.Shape.{Breach, Shape, Taken, and_then, operands, put, moved, top}
use Rattle.pkmachine.specs.Effects.{Effect, Operates, Moves, Stops, Raises, Gives, Leaves}
use Rattle.pkmachine.specs.Effects.{Answers, NoName, Objects, effect_of, is_old_string}
use Rattle.pkmachine.specs.View.{View}
use Rattle.pkmachine.specs.declared.memo.Memo.{Memo}
use Rattle.pkmachine.specs.declared.memo.Memo.TheVariants.{Fresh, Kept}

-- how a domain follows an instruction: the item of the object that it makes of operands with these
-- items, the domain after that, the domain after a move with so many objects in the memo, and the
-- domain after STOP
pub record Follower (I D : Type 0) : Type 0 where
  pub given : D → Instruction → List I → I
  pub after : D → Instruction → List I → D
  pub after_move : D → Move → ℕ → Instruction → D
  pub after_stop : D → D

-- an operation with this effect takes nothing and makes an object, which its argument may describe
abbrev pub makes_alone : Effect → Bool
makes_alone (Operates (Objects zero) NoName Answers) = false
makes_alone (Operates (Objects zero) NoName gives) = true
makes_alone _ = false

-- opcodes whose argument may describe the object that they make: numbers, texts and bytes do
abbrev pub is_described : Op → Bool
is_described o = is_old_string o || makes_alone (effect_of o)

-- the instruction has this opcode and this length
pub record HasLength (i : Instruction) (op : Op) (count : ℕ) : Type 0 where
  pub op_is : i.op ≡ op
  pub long : length (spelling i) ≡ count

-- the item of each object on the stack and in the memo, and the domain
pub record Carried (I D : Type 0) : Type 0 where
  pub shape : Shape I
  pub domain : D

-- what contracts see of a machine with a domain
pub record MachineView (I D : Type 0) : Type 0 where
  pub view : View
  pub carried : Carried I D

-- the item of the object that an operation leaves; None if that is its receiver, whose item stays
abbrev pub item_left : {I : Type 0} → Gives → I → Option I
item_left (Leaves wanted) item = None
item_left gives item = Some item

module _ {I D : Type 0} (follows : Follower I D) where
  -- what is carried after an operation, given its operands
  abbrev pub operation_followed : Gives → Instruction → Carried I D → Result (Taken I) Breach
      → Result (Carried I D) Breach
  operation_followed gives instruction carried found =
      and_then found (λ taken. Ok (record {
        shape = record carried.shape {
          entries = put (item_left gives (follows.given carried.domain instruction taken.operands))
              taken.operands
              ++ taken.below;
        };
        domain = follows.after carried.domain instruction taken.operands;
      }))

  -- what is carried after a move
  abbrev pub move_followed : Move → Instruction → Carried I D → Result (Carried I D) Breach
  move_followed move instruction carried =
      and_then (moved move (memo_number instruction) carried.shape) (λ shape. Ok (record {
        shape = shape;
        domain = follows.after_move carried.domain move (length carried.shape.memo) instruction;
      }))

  -- what is carried after STOP, which takes the result
  abbrev pub stop_followed : Carried I D → Result (Carried I D) Breach
  stop_followed carried =
      and_then (top carried.shape.entries) (λ taken. Ok (record {
        shape = record carried.shape { entries = taken.1 };
        domain = follows.after_stop carried.domain;
      }))

  -- what is carried after an instruction with this effect
  abbrev pub followed_by : Effect → Instruction → Carried I D → Result (Carried I D) Breach
  followed_by (Operates takes names gives) instruction carried =
      operation_followed gives instruction carried (operands takes carried.shape.entries)
  followed_by (Moves move) instruction carried = move_followed move instruction carried
  followed_by Stops instruction carried = stop_followed carried
  followed_by Raises instruction carried = Ok carried

  -- what is carried after an instruction. An old string pushes one object, whatever it decodes to,
  -- so its decoding doesn't matter
  abbrev pub followed : Instruction → Carried I D → Result (Carried I D) Breach
  followed instruction carried = followed_by (effect_of instruction.op) instruction carried

module _ {I D : Type 0} where
  -- what is carried at the start
  abbrev pub nothing_carried : D → Carried I D
  nothing_carried domain = record { shape = record { entries = []; memo = [] }; domain = domain }

  -- what is carried where the next pickle begins; the domain stays as it is
  abbrev pub carried_on : Memo → Carried I D → Carried I D
  carried_on Fresh carried = nothing_carried carried.domain
  carried_on Kept carried =
      record carried { shape = record { entries = []; memo = carried.shape.memo } }
