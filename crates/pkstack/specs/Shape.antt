-- A stack of marks and items with a memo, and what instructions do to them. It is generic in the
-- items: the objects of a run, or what the checker knows of them.
use Rattle.std.specs.Prelude.{ℕ, zero, suc, Bool, true, if◌then◌else◌, not, List, [], ◌∷◌, length}
use Rattle.std.specs.Prelude.{Option, Some, None, Result, Ok, Err}
use Rattle.std.specs.Ordering.{nat_cmp}
use Rattle.std.specs.Map.{lookup}
use Rattle.std.specs.BTreeMap.{insert_entry, is_at}
use Rattle.pkops.specs.declared.Reason.{Reason}
use Rattle.pkops.specs.declared.Reason.TheVariants as reason
use Rattle.pkstack.specs.declared.takes.SliceRule.{SliceRule}
use Rattle.pkstack.specs.declared.takes.SliceRule.TheVariants.{AnySlice, EvenSlice, FullSlice}
use Rattle.pkstack.specs.declared.takes.Takes.{Takes}
use Rattle.pkstack.specs.declared.takes.Takes.TheVariants.{Objects, Slice, SliceAndReceiver}
use Rattle.pkstack.specs.declared.moves.Move.{Move}
use Rattle.pkstack.specs.declared.moves.Move.TheVariants.{PushesMark, Pops, PopsMark, Duplicates}
use Rattle.pkstack.specs.declared.moves.Move.TheVariants.{Stores, StoresNext, Fetches, NoOp}
use Rattle.pkstack.specs.declared.moves.Move.TheVariants.{Extends}

-- what an instruction is missing: a mark, an item, a memo entry with this number, or an even number
-- of items. Extension codes are always missing: they refer to a registry outside the pickle (PEP
-- 307, The extension registry)
pub data Breach : Type 0 where
  NoMark : Breach
  NoItem : Breach
  NoMemo : ℕ → Breach
  Odd : Breach
  Extension : Breach

-- the reason that the answer gives for something that is missing
abbrev pub reason_of_breach : Breach → Reason
reason_of_breach NoMark = reason.MissingMark
reason_of_breach NoItem = reason.MissingItem
reason_of_breach (NoMemo number) = reason.MissingMemo number
reason_of_breach Odd = reason.OddItems
reason_of_breach Extension = reason.ExtensionCode

-- an entry of the stack
pub data Entry (A : Type 0) : Type 0 where
  Mark : Entry A
  Item : A → Entry A

-- the stack, top first, and the memo in the order of its numbers
pub record Shape (A : Type 0) : Type 0 where
  pub entries : List (Entry A)
  pub memo : List (ℕ × A)

-- the items that an operation takes, from the bottom up, and the entries below them
pub record Taken (A : Type 0) : Type 0 where
  pub operands : List A
  pub below : List (Entry A)

-- continues with the value, if there is one
abbrev pub and_then : {A B E : Type 0} → Result A E → (A → Result B E) → Result B E
and_then (Ok answer) next = next answer
and_then (Err fault) next = Err fault

-- the value, unless there is a fault
abbrev pub unless : {A E : Type 0} → Option E → Result A E → Result A E
unless None answer = answer
unless (Some fault) answer = Err fault

-- the list has an even number of elements
abbrev pub is_even : {A : Type 0} → List A → Bool
is_even [] = true
is_even (item ∷ items) = not (is_even items)

module _ {A : Type 0} where
  -- the topmost `count` items, followed by those above them; a mark among them is a breach
  abbrev pub items : ℕ → List (Entry A) → List A → Result (Taken A) Breach
  items zero entries above = Ok (record { operands = above; below = entries })
  items (suc count) (Item item ∷ entries) above = items count entries (item ∷ above)
  items (suc count) (Mark ∷ entries) above = Err NoItem
  items (suc count) [] above = Err NoItem

  -- the slice: the items above the topmost mark, which is taken too
  abbrev pub slice : List (Entry A) → List A → Result (Taken A) Breach
  slice (Item item ∷ entries) above = slice entries (item ∷ above)
  slice (Mark ∷ entries) above = Ok (record { operands = above; below = entries })
  slice [] above = Err NoMark

  -- what is missing if a slice breaks its rule
  abbrev pub breaks : SliceRule → List A → Option Breach
  breaks AnySlice items = None
  breaks EvenSlice items = if is_even items then None else Some Odd
  breaks FullSlice [] = Some NoItem
  breaks FullSlice (item ∷ items) = None

  -- what an operation takes; the receiver of a slice is the item directly below the mark, and comes
  -- first
  abbrev pub operands : Takes → List (Entry A) → Result (Taken A) Breach
  operands (Objects count) entries = items count entries []
  operands (Slice rule) entries =
      and_then (slice entries []) (λ taken. unless (breaks rule taken.operands) (Ok taken))
  operands (SliceAndReceiver rule) entries =
      and_then (slice entries []) (λ taken.
      and_then (items 1 taken.below taken.operands) (λ all.
      unless (breaks rule taken.operands) (Ok all)))

  -- the first element, as an entry
  abbrev pub front : List A → List (Entry A)
  front [] = []
  front (item ∷ items) = Item item ∷ []

  -- what an operation leaves: a new item, or otherwise its first operand
  abbrev pub put : Option A → List A → List (Entry A)
  put (Some item) operands = Item item ∷ []
  put None operands = front operands

  -- the topmost item, and the entries below it
  abbrev pub top : List (Entry A) → Result (A × List (Entry A)) Breach
  top (Item item ∷ entries) = Ok (item, entries)
  top (Mark ∷ entries) = Err NoItem
  top [] = Err NoItem

  -- the memo with this item stored under this number
  abbrev pub stored : ℕ → A → List (ℕ × A) → List (ℕ × A)
  stored number item memo = insert_entry nat_cmp memo number item

  -- what the memo holds under this number
  abbrev pub recalled : ℕ → List (ℕ × A) → Option A
  recalled number memo = lookup (is_at (nat_cmp number)) memo

  -- pushes what was recalled
  abbrev pub fetched : Option A → ℕ → Shape A → Result (Shape A) Breach
  fetched None number shape = Err (NoMemo number)
  fetched (Some item) number shape = Ok (record shape { entries = Item item ∷ shape.entries })

  -- removes the topmost entry, a mark or an item
  abbrev pub popped : List (Entry A) → Shape A → Result (Shape A) Breach
  popped [] shape = Err NoItem
  popped (entry ∷ entries) shape = Ok (record shape { entries = entries })

  -- stores the topmost item under this number
  abbrev pub storing : ℕ → Shape A → Result (Shape A) Breach
  storing number shape =
      and_then (top shape.entries) (λ taken.
      Ok (record shape { memo = stored number taken.0 shape.memo }))

  -- the moves, which look at no object; the number is the one that the instruction names
  abbrev pub moved : Move → ℕ → Shape A → Result (Shape A) Breach
  moved PushesMark number shape = Ok (record shape { entries = Mark ∷ shape.entries })
  moved Pops number shape = popped shape.entries shape
  moved PopsMark number shape =
      and_then (slice shape.entries []) (λ taken. Ok (record shape { entries = taken.below }))
  moved Duplicates number shape =
      and_then (top shape.entries) (λ taken.
      Ok (record shape { entries = Item taken.0 ∷ shape.entries }))
  moved Stores number shape = storing number shape
  moved StoresNext number shape = storing (length shape.memo) shape
  moved Fetches number shape = fetched (recalled number shape.memo) number shape
  moved NoOp number shape = Ok shape
  moved Extends number shape = Err Extension

  -- the number of marks on the stack
  abbrev pub marks_of : List (Entry A) → ℕ
  marks_of [] = 0
  marks_of (Mark ∷ entries) = suc (marks_of entries)
  marks_of (Item item ∷ entries) = marks_of entries

-- the number under which a move stores into the memo, if the instruction names it; otherwise 0,
-- which no limit excludes. MEMOIZE uses the number of entries instead
abbrev pub number_moved : Move → ℕ → ℕ
number_moved Stores number = number
number_moved _ number = 0
