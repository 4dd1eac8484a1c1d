-- Worked examples of what a domain carries, by computation.
use Rattle.std.proofs.Common.{◌≡◌, ℕ, suc, ◌+◌, ◌*◌, List, [], ◌∷◌, Ok, Err, refl}
use Rattle.std.specs.List.{sum}
use Rattle.pkops.specs.Spelling.{Counted, Instruction, Nothing, Number, instruction}
use Rattle.pkops.specs.declared.Op.{Op}
use Rattle.pkops.specs.declared.Op.TheVariants as op
use Rattle.pkstack.specs.Shape.{Entry, Item, Mark, NoItem}
use Rattle.pkmachine.specs.declared.memo.Memo.TheVariants.{Fresh, Kept}
use Rattle.pkmachine.specs.Following.{Carried, Follower, carried_on, followed}

-- an object's item is one more than the sum of those that it is made of; the domain counts
-- operations, moves by the hundred, the objects in the memo before them by the thousand, and STOP
abbrev sums : Follower ℕ ℕ
sums = record {
  given = λ count i items. suc (sum items);
  after = λ count i items. suc count;
  after_move = λ count move kept i. 1000 * kept + (100 + count);
  after_stop = λ count. 5000 + count;
}

abbrev bare : Op → Instruction
bare op = instruction op Nothing

abbrev carries : List (Entry ℕ) → ℕ → Carried ℕ ℕ
carries entries count = record { shape = record { entries = entries; memo = [] }; domain = count }

-- a new object is made of none
pub made : followed sums (bare op.EmptyList) (carries (Item 7 ∷ []) 3)
    ≡ Ok (carries (Item 1 ∷ Item 7 ∷ []) 4)
made = refl

-- so is what an old string pushes, whatever it decodes to
pub old : followed sums (instruction op.ShortBinString (Counted (255 ∷ []))) (carries [] 3)
    ≡ Ok (carries (Item 1 ∷ []) 4)
old = refl

-- a tuple is made of both of its objects, the lower first
pub made_of_two : followed sums (bare op.Tuple2) (carries (Item 4 ∷ Item 5 ∷ Item 6 ∷ []) 3)
    ≡ Ok (carries (Item 10 ∷ Item 6 ∷ []) 4)
made_of_two = refl

-- a receiver's item stays with it, and the domain hears of the operation
pub filled : followed sums (bare op.Appends) (carries (Item 4 ∷ Mark ∷ Item 6 ∷ []) 3)
    ≡ Ok (carries (Item 6 ∷ []) 4)
filled = refl

-- without its operands an operation is followed nowhere
pub lacking : followed sums (bare op.Tuple2) (carries (Item 4 ∷ Mark ∷ []) 3) ≡ Err NoItem
lacking = refl

-- a move makes no item, and the domain hears of it
pub doubled : followed sums (bare op.Dup) (carries (Item 4 ∷ []) 3)
    ≡ Ok (carries (Item 4 ∷ Item 4 ∷ []) 103)
doubled = refl

-- an object with the item 4, which the memo holds under 9
abbrev remembered : ℕ → Carried ℕ ℕ
remembered count =
    record { shape = record { entries = Item 4 ∷ []; memo = (9, 4) ∷ [] }; domain = count }

-- the memo holds the item that the object has
pub stored : followed sums (instruction op.BinPut (Number 1 9)) (carries (Item 4 ∷ []) 3)
    ≡ Ok (remembered 103)
stored = refl

-- the domain hears how many objects were in the memo before a move
pub counted : followed sums (bare op.Memoize) (remembered 3) ≡ Ok (record {
  shape = record { entries = Item 4 ∷ []; memo = (1, 4) ∷ (9, 4) ∷ [] };
  domain = 1103;
})
counted = refl

-- STOP takes the result, and the domain hears of it
pub stopped : followed sums (bare op.Stop) (carries (Item 4 ∷ []) 3) ≡ Ok (carries [] 5003)
stopped = refl

-- with a fresh memo the next pickle begins with nothing, with a kept one with the memo
pub fresh : carried_on Fresh (remembered 3) ≡ carries [] 3
fresh = refl

pub kept : carried_on Kept (remembered 3)
    ≡ record { shape = record { entries = []; memo = (9, 4) ∷ [] }; domain = 3 }
kept = refl
