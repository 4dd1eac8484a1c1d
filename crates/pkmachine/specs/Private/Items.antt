-- What the domain keeps of the objects on the stack and in the memo, without what is known of them.
use Rattle.std.specs.Prelude.{◌≡◌, ℕ, List, [], ◌∷◌, map, Ok}
use Rattle.pkops.specs.Spelling.{Instruction}
use Rattle.pkops.specs.declared.Op.{Op}
use Rattle.pkstack.specs.Shape.{Entry, Mark, Item, Shape}
use Rattle.pkmachine.specs.declared.held.Held.{Held}
use Rattle.pkmachine.specs.Effects.{Effect}
use Rattle.pkmachine.specs.Following.{Carried, Follower, followed_by}
use Rattle.pkmachine.specs.Private.Slots.{StateView}

module _ {I : Type 0} where
  abbrev pub item_of : Held I → I
  item_of held = held.item

  abbrev pub entry_item : Entry (Held I) → Entry I
  entry_item Mark = Mark
  entry_item (Item held) = Item (item_of held)

  -- the items on the stack
  abbrev pub items_on : List (Entry (Held I)) → List (Entry I)
  items_on entries = map entry_item entries

  -- the items in the memo
  abbrev pub items_in : List (ℕ × Held I) → List (ℕ × I)
  items_in cells = map (λ cell. (cell.0, item_of cell.1)) cells

  -- the items on the stack and in the memo
  abbrev pub shape_of : Shape (Held I) → Shape I
  shape_of held = record { entries = items_on held.entries; memo = items_in held.memo }

-- what contracts see of the state of a machine: what is known, and what its domain carries
pub record CarriedState (I D : Type 0) : Type 0 where
  pub view : StateView
  pub carried : Carried I D

module _ {I D : Type 0} where
  -- what is carried with these entries and this memo
  abbrev pub carried_with : List (ℕ × I) → List (Entry (Held I)) → D → Carried I D
  carried_with memo entries domain =
      record { shape = record { entries = items_on entries; memo = memo }; domain = domain }

  module _ (follows : Follower I D) where
    -- what is carried with one more object on top of the stack, which an instruction makes of none
    abbrev pub with_made_item : Instruction → Carried I D → Carried I D
    with_made_item instruction carried = record {
      shape = record carried.shape {
        entries = Item (follows.given carried.domain instruction []) ∷ carried.shape.entries;
      };
      domain = follows.after carried.domain instruction [];
    }

    -- the domain follows every instruction with this opcode, if it has this effect: from the old
    -- entries to the new, whatever the memo is
    abbrev pub FollowsEffect : Op → Effect → List (Entry (Held I)) → D → List (Entry (Held I)) → D
        → Type 0
    FollowsEffect op effect old was new is =
        (instruction : Instruction)
        → instruction.op ≡ op
        → (memo : List (ℕ × I))
        → followed_by follows effect instruction (carried_with memo old was)
        ≡ Ok (carried_with memo new is)
