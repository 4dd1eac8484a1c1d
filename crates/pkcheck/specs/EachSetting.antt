-- What holds for every decoding of old strings.
use Rattle.std.specs.Prelude.{ℕ, Bool, List}
use Rattle.pkops.specs.Spelling.{Instruction}
use Rattle.pkmachine.specs.declared.old_strings.OldStrings.{OldStrings}
use Rattle.pkmachine.specs.declared.old_strings.OldStrings.TheVariants.{Unknown}
use Rattle.pkmachine.specs.RowRuns.{Beginning, InEachRunFrom}
use Rattle.pkmachine.specs.WholeRuns.{EndsWell}

-- if all runs of a pickle end well when old strings may decode to anything, they end well under
-- each setting, because a setting only picks one of these objects; the setting applies to the
-- pickles after which the runs begin, too
abbrev pub SoundInEach : Type 0
SoundInEach =
    (setting : OldStrings) (beginning : Beginning) (instructions : List Instruction)
    (list : List ℕ → List ℕ → Bool) →
    InEachRunFrom Unknown beginning instructions (EndsWell list) →
    InEachRunFrom setting beginning instructions (EndsWell list)
