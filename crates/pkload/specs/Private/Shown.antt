-- What the codes on the stack stand for.
use Rattle.std.specs.Prelude.{◌≡◌, ℕ, zero, suc, ◌-◌, List, [], ◌∷◌, length, map, reverse, Ok}
use Rattle.pkstack.specs.Shape.{Entry, Mark, Item, Taken, slice}
use Rattle.pkload.specs.Heft.{Heft}
use Rattle.pkload.specs.Private.Packed.{unpacked}

-- the entries that these codes stand for, from the top down; those above the topmost mark are so
-- many. The code of a mark is the number of codes up to the next mark below it, with that mark
abbrev pub shown : ℕ → List ℕ → List (Entry Heft)
shown above [] = []
shown zero (code ∷ codes) = Mark ∷ shown (length codes - code) codes
shown (suc above) (code ∷ codes) = Item (unpacked code) ∷ shown above codes

-- the entries of a stack with these codes, the last one on top; so many lie up to the topmost mark,
-- with that mark
abbrev pub entries_of : ℕ → List ℕ → List (Entry Heft)
entries_of fence codes = shown (length codes - fence) (reverse codes)

-- if there is a slice, its objects have these codes
abbrev pub HasObjects : List (Entry Heft) → List ℕ → Type 0
HasObjects entries codes =
    (taken : Taken Heft) → slice entries [] ≡ Ok taken → taken.operands ≡ map unpacked codes
