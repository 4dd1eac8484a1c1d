-- A pickle and its optimized form have the same runs.
use Rattle.std.specs.Prelude.{◌≡◌, ℕ, ◌<◌, true, List, [], length}
use Rattle.pkops.specs.Spelling.{Instruction}
use Rattle.pkcheck.specs.Ends.{SameEnd}
use Rattle.pkmachine.specs.Runs.{Outcome, start}
use Rattle.pkmachine.specs.WholeRuns.{run}
use Rattle.pkopt.specs.Writers.{sources, is_read, after_all}

-- whatever operations answer, the two do the same and end the same way
abbrev pub RunsAlike : List Instruction → List Instruction → Type 0
RunsAlike p q = (os : List Outcome) → SameEnd (run p os start) (run q os start)

-- every memo write is read
abbrev pub AllRead : List Instruction → Type 0
AllRead p = (w : ℕ) → w < length (after_all p []) → is_read w (sources [] p) ≡ true
