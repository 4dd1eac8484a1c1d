-- The line of a verdict.
use Rattle.std.specs.Prelude.{ℕ, List, ◌++◌, length, codes, decimal, Result, Ok, Err}
use Rattle.pkcheck.specs.Printed.{no_text, no_all_text}
use Rattle.pkcheck.specs.declared.Yes.{Yes}
use Rattle.pkcheck.specs.declared.No.{No}
use Rattle.pkcheck.specs.declared.YesAll.{YesAll}
use Rattle.pkcheck.specs.declared.NoAll.{NoAll}
use Rattle.pkprint.specs.declared.checking.Outcome.{Outcome}
use Rattle.pkprint.specs.declared.checking.Outcome.TheVariants.{Done, Refused}

-- `yes: N bytes, M imports`
abbrev pub yes_line : ℕ → ℕ → List ℕ
yes_line taken imports =
    codes "yes: "
    ++ (decimal taken ++ (codes " bytes, " ++ (decimal imports ++ codes " imports\n")))

-- `no` and a refusal as it is printed
abbrev pub no_line : List ℕ → List ℕ
no_line refusal = codes "no " ++ (refusal ++ codes "\n")

-- the line of an answer
abbrev pub verdict_line : Result Yes No → List ℕ
verdict_line (Ok accepted) = yes_line accepted.taken (length accepted.imports)
verdict_line (Err refused) = no_line (no_text refused)

-- the outcome of a check: done for a yes, refused for a no
abbrev pub outcome_of : Result Yes No → Outcome
outcome_of (Ok accepted) = Done
outcome_of (Err refused) = Refused

-- `yes: N bytes, P pickles, M imports`
abbrev pub yes_all_line : ℕ → ℕ → ℕ → List ℕ
yes_all_line taken pickles imports =
    codes "yes: "
    ++ (decimal taken
    ++ (codes " bytes, "
    ++ (decimal pickles
    ++ (codes " pickles, " ++ (decimal imports ++ codes " imports\n")))))

-- the line of an answer about a row of pickles
abbrev pub row_line : Result YesAll NoAll → List ℕ
row_line (Ok accepted) =
    yes_all_line accepted.taken accepted.pickles (length accepted.imports)
row_line (Err refused) = no_line (no_all_text refused)

-- the outcome of a check of a row: done for a yes, refused for a no
abbrev pub outcome_of_row : Result YesAll NoAll → Outcome
outcome_of_row (Ok accepted) = Done
outcome_of_row (Err refused) = Refused
