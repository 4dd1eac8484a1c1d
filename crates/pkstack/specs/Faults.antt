-- Why a call of the stack or the memo is refused: something is missing, a limit is exceeded, or an
-- allocation is refused.
use Rattle.std.specs.Prelude.{ℕ, ◌≡◌, ◌<◌, ◌≤◌, ◌⊎◌, List, length, Result, Ok, Err, ⊤}
use Rattle.pkops.specs.Limits.{Bounds}
use Rattle.pkops.specs.declared.Reason.{Reason}
use Rattle.pkops.specs.declared.Reason.TheVariants as reason
use Rattle.pkstack.specs.declared.moves.Move.{Move}
use Rattle.pkstack.specs.declared.moves.Move.TheVariants as move
use Rattle.pkstack.specs.Shape.{Breach, Shape, number_moved, reason_of_breach}

-- something is missing, and this is the reason for it
abbrev pub IsLack : {A : Type 0} → Result A Breach → Reason → Type 0
IsLack x r = (b : Breach) × (x ≡ Err b) × (r ≡ reason_of_breach b)

-- one more entry would exceed the limit, or its allocation is refused
abbrev pub WantsRoom : ℕ → ℕ → Reason → Type 0
WantsRoom limit count r = ((r ≡ reason.TooLarge) × (limit ≤ count)) ⊎ (r ≡ reason.OutOfMemory)

-- the memo would exceed its limit, or its allocation is refused
abbrev pub WantsMemo : {A : Type 0} → ℕ → List (ℕ × A) → Reason → Type 0
WantsMemo limit cells r =
    ((r ≡ reason.TooLarge) × (limit < length cells)) ⊎ (r ≡ reason.OutOfMemory)

-- whether a move may allocate: one that only removes entries or changes nothing doesn't
abbrev pub MoveMayWantMemory : Move → Type 0
MoveMayWantMemory move.Pops = ⊥
MoveMayWantMemory move.PopsMark = ⊥
MoveMayWantMemory move.NoOp = ⊥
MoveMayWantMemory move.Extends = ⊥
MoveMayWantMemory m = ⊤

-- the result exceeds the limits, or this memo number does
abbrev pub LeavesTooMuch : {A : Type 0} → Bounds → ℕ → Result (Shape A) Breach → Type 0
LeavesTooMuch {A} l n x =
    (k : Shape A) × (x ≡ Ok k)
    × ((l.stack < length k.entries) ⊎ ((l.memo < length k.memo) ⊎ (l.numbers < n)))

-- something is missing, a limit is exceeded, or an allocation is refused
abbrev pub IsFault : {A : Type 0} → Bounds → ℕ → Result (Shape A) Breach → Reason → Type 0
IsFault l n x r =
    IsLack x r ⊎ (((r ≡ reason.TooLarge) × LeavesTooMuch l n x) ⊎ (r ≡ reason.OutOfMemory))

-- like IsFault, for a move with this memo number; only some moves may allocate
abbrev pub IsFaultOf : {A : Type 0} → Move → Bounds → ℕ → Result (Shape A) Breach → Reason
    → Type 0
IsFaultOf m l n x r =
    IsLack x r
    ⊎ (((r ≡ reason.TooLarge) × LeavesTooMuch l (number_moved m n) x)
    ⊎ (MoveMayWantMemory m × (r ≡ reason.OutOfMemory)))
