-- How an entry of the stack holds what is kept of an object, or a mark.
use Rattle.std.specs.Prelude.{◌≡◌, ℕ}
use Rattle.std.proofs.Common.{if◌then◌else◌, eqb, inl, inr, refl, sym}
use Rattle.std.proofs.lemmas.Bool.Decides.{eqb_tells}
use Rattle.pkstack.specs.declared.Slot.{Slot}
use Rattle.pkstack.specs.declared.Slot.TheVariants as slot
use Rattle.pkmachine.specs.declared.held.Held.{Held}
use Rattle.pkmachine.specs.Private.Packed.{mark, packed, packed_unpacked, unpacked}

module _ {I : Type 0} where
  -- what a cell with this code and item holds
  abbrev pub cell_held : ℕ → I → Slot (Held I)
  cell_held code item =
      if eqb code mark
      then slot.Mark
      else slot.Object (record { value = unpacked code; item = item })

  -- the code of the cell that holds this
  abbrev pub cell_code : Slot (Held I) → ℕ
  cell_code slot.Mark = mark
  cell_code (slot.Object held) = packed held.value

  -- the item of the cell that holds this; a mark has this one
  abbrev pub cell_item : I → Slot (Held I) → I
  cell_item none slot.Mark = none
  cell_item none (slot.Object held) = held.item

  -- a mark has the item of marks
  abbrev pub HasItem : I → ℕ → I → Type 0
  HasItem none code item = code ≡ mark → item ≡ none

  -- cells that hold the same have the same code
  pub code_held : (code : ℕ) (item : I) → cell_code (cell_held code item) ≡ code
  code_held code item = elim (eqb_tells code mark) [
    | inl same ↦ rw same.0 (sym same.1)
    | inr other ↦ rw other.0 (packed_unpacked code)
  ]

  -- and the same item
  pub item_held : (none : I) (code : ℕ) (item : I) → HasItem none code item
      → cell_item none (cell_held code item) ≡ item
  item_held none code item has = elim (eqb_tells code mark) [
    | inl same ↦ rw same.0 (sym (has same.1))
    | inr other ↦ rw other.0 refl
  ]
