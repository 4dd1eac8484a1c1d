-- A pickle and its optimized form under the same check.
use Rattle.std.specs.Prelude.{List}
use Rattle.pkops.specs.Limits.{Bounds}
use Rattle.pkops.specs.Spelling.{Instruction}
use Rattle.pkmachine.specs.declared.OldStrings.TheVariants.{Unknown}
use Rattle.pkcheck.specs.ButForLimits.{IsFaultlessButForLimits}
use Rattle.pkmachine.specs.Knowledge.{Policy}

-- under every policy for which the first has no fault, the second has none except exceeded limits
abbrev pub StaysFaultless : List Instruction → List Instruction → Type 0
StaysFaultless p q =
    (policy : Policy) (limits : Bounds)
    → IsFaultlessButForLimits Unknown policy limits p
    → IsFaultlessButForLimits Unknown policy limits q
