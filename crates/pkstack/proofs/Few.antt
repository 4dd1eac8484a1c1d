-- There are too few items on top: the stack is too short, or a mark is among them.
use Rattle.std.proofs.Common.{◌≡◌, ℕ, zero, suc, ◌-◌, ◌<◌, List, [], ◌∷◌, length, drop, get_or}
use Rattle.std.proofs.Common.{Err, refl, arith}
use Rattle.std.proofs.Math.Seq.{drop-cons}
use Rattle.pkstack.specs.declared.cells.Slot.{Slot}
use Rattle.pkstack.specs.declared.cells.Slot.TheVariants as slot
use Rattle.pkstack.specs.Shape.{Entry, Mark, Item, NoItem, items}
use Rattle.pkstack.specs.Private.Slots.{AllObjects, shown}
use Rattle.pkstack.proofs.Bars.{items_marked}
use Rattle.pkstack.proofs.Limited.{length_shown}
use Rattle.pkstack.proofs.Topmost.{shown_top}

module _ {A : Type 0} where
  short : (es : List (Entry A)) (count : ℕ) (above : List A) → length es < count
      → items count es above ≡ Err NoItem
  short es zero above h = absurd (omega (arith, h))
  short (Item x ∷ es) (suc count) above h = short es count (x ∷ above) (omega (arith, h))
  short _ (suc count) above h = refl

  -- there are fewer entries than that
  pub few_entries : (xs : List (Slot A)) (count : ℕ) → length xs < count
      → items count (shown xs []) [] ≡ Err NoItem
  few_entries xs count h = short (shown xs []) count [] (omega (arith, h, length_shown xs))

  -- a mark is on top
  pub mark_on_top : (xs : List (Slot A)) (d : Slot A) → 0 < length xs
      → get_or xs (length xs - 1) d ≡ slot.Mark → items 1 (shown xs []) [] ≡ Err NoItem
  mark_on_top xs d h e =
      let is : length xs ≡ suc (length xs - 1) = omega arith in
      rw (shown_top xs (length xs - 1) d slot.Mark is e) refl

  -- a mark is below objects, and among the topmost `count` entries
  pub mark_below : (xs : List (Slot A)) (m n count : ℕ) (d : Slot A) → m ≡ suc n
      → n < length xs → get_or xs n d ≡ slot.Mark → AllObjects (drop m xs)
      → length xs - n - 1 < count → items count (shown xs []) [] ≡ Err NoItem
  mark_below xs m n count d is h e all few =
      items_marked xs n count
      (record { within = h; here = rw (drop-cons xs n d h, e) refl; above = rw is at all }) few
