-- The argument that lies in bytes whose layout is known.
use Rattle.std.specs.Prelude.{ℕ, List}
use Rattle.pkops.specs.Contents.{IsGood}
use Rattle.pkops.specs.KnownLayout.{Lies}
use Rattle.pkops.specs.Spelling.{Op, Argument, instruction}

-- some argument of the opcode lies in the bytes
abbrev pub HasArgument : Op → ℕ → List ℕ → Type 0
HasArgument op split bytes = (limit : ℕ) × (arg : Argument) × Lies limit op arg split bytes

-- some argument of the opcode lies in the bytes, and its contents obey the opcode's rule
abbrev pub HasGoodArgument : Op → ℕ → List ℕ → Type 0
HasGoodArgument op split bytes =
    (limit : ℕ) × (arg : Argument) × Lies limit op arg split bytes × IsGood (instruction op arg)

-- P holds of the argument that lies in the bytes, under whatever limit
abbrev pub OfArgument : Op → ℕ → List ℕ → (Argument → Type 0) → Type 0
OfArgument op split bytes P =
    (limit : ℕ) (arg : Argument) → Lies limit op arg split bytes → P arg
