-- When the bill can't be kept, although nothing was allocated.
use Rattle.std.specs.Prelude.{◌≡◌, ◌<◌, ◌≤◌, ◌^◌, ◌⊎◌, ℕ, List, [], IfOk, Result, length, true}
use Rattle.pkstack.specs.Shape.{Breach, Entry, Taken, is_even, slice}
use Rattle.pkload.specs.Heft.{Heft}
use Rattle.pkload.specs.Keys.{every_other}
use Rattle.pkload.specs.Tally.{with_keys}
use Rattle.pkload.specs.declared.halt.Halt.{Halt}
use Rattle.pkload.specs.declared.halt.Halt.TheVariants.{Lost, OutOfMemory}
use Rattle.pkload.specs.declared.tally.Tally.{Tally}

-- this sum doesn't fit 64 bits
abbrev pub IsTooGreat : ℕ → Halt → Type 0
IsTooGreat sum halt = (halt ≡ Lost) × (2 ^ 64 ≤ sum)

-- there are so many bytes or objects, or this sum doesn't fit 64 bits
abbrev pub IsTooMuch : ℕ → ℕ → Halt → Type 0
IsTooMuch count sum halt = (halt ≡ Lost) × ((2 ^ 50 < count) ⊎ (2 ^ 64 ≤ sum))

-- a sum of this tally doesn't fit 64 bits
abbrev pub HasTooGreat : Tally → Halt → Type 0
HasTooGreat tally halt = (halt ≡ Lost) × ((2 ^ 64 ≤ tally.work) ⊎ (2 ^ 64 ≤ tally.clash))

-- the next number of this memo doesn't fit 32 bits
abbrev pub HasNoNumber : List (ℕ × Heft) → Halt → Type 0
HasNoNumber memo halt = (halt ≡ OutOfMemory) × (2 ^ 32 ≤ length memo)

-- if this was found, the sum doesn't fit 64 bits
abbrev pub LacksSum : Result (Taken Heft) Breach → ℕ → Type 0
LacksSum found sum = IfOk found (λ taken. 2 ^ 64 ≤ sum)

-- a sum of this tally doesn't fit 64 bits
abbrev pub IsTallyTooGreat : Tally → Type 0
IsTallyTooGreat tally = (2 ^ 64 ≤ tally.work) ⊎ (2 ^ 64 ≤ tally.clash)

-- if there is a slice, counting its objects as keys gives a sum that doesn't fit 64 bits
abbrev pub LacksKeys : List (Entry Heft) → Tally → Type 0
LacksKeys entries tally =
    IfOk (slice entries []) (λ taken. IsTallyTooGreat (with_keys tally taken.operands))

-- if there is a slice of an even number of objects, counting every other as a key does
abbrev pub LacksPairs : List (Entry Heft) → Tally → Type 0
LacksPairs entries tally =
    IfOk (slice entries []) (λ taken. is_even taken.operands ≡ true
    → IsTallyTooGreat (with_keys tally (every_other taken.operands)))
