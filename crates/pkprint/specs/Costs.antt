-- The lines of a check that also bounds what loading costs.
use Rattle.std.specs.Prelude.{◌≢◌, ℕ, Bool, if◌then◌else◌, List, [], ◌++◌, codes, decimal, length}
use Rattle.std.specs.Prelude.{Result, Ok, Err, MatchResult}
use Rattle.pkops.specs.Limits.{Bounds}
use Rattle.pkread.specs.Rows.{Sight}
use Rattle.pkmachine.specs.Knowledge.{Policy}
use Rattle.pkcheck.specs.Printed.{no_text}
use Rattle.pkcheck.specs.declared.Extent.{Extent}
use Rattle.pkcheck.specs.declared.Extent.TheVariants.{OnePickle, ToTheEnd}
use Rattle.pkcheck.specs.declared.Loading.{Loading}
use Rattle.pkcheck.specs.declared.RefusedPickle.{RefusedPickle}
use Rattle.pkcheck.specs.declared.YesAll.{YesAll}
use Rattle.pkload.specs.Costly.{CostsTooMuch, StopsAt}
use Rattle.pkload.specs.Loading.{IsRightLoading}
use Rattle.pkload.specs.Printed.{costly_text}
use Rattle.pkload.specs.declared.Costly.{Costly}
use Rattle.pkload.specs.declared.Excess.TheVariants.{OutOfMemory}
use Rattle.pkload.specs.declared.Tally.{Tally}
use Rattle.pkload.specs.declared.Tolls.{Tolls}
use Rattle.pkload.specs.declared.YesWithBill.{YesWithBill}
use Rattle.pkprint.specs.Verdict.{no_line, yes_all_line, yes_line}
use Rattle.pkprint.specs.declared.checking.Outcome.{Outcome}
use Rattle.pkprint.specs.declared.checking.Outcome.TheVariants.{Done, Refused}

-- what such a check answers: a yes, a refusal of the check itself, or a limit that is exceeded
abbrev pub Answer : Type 0
Answer = Result (Result YesWithBill RefusedPickle) Costly

-- the answer is right under these limits. An excess of OutOfMemory says that the bill couldn't be
-- kept after the instruction
abbrev pub IsRightCosting : Loading → Policy → Bounds → Tolls → (old new : Sight) → Extent → Answer
    → Type 0
IsRightCosting loading policy limits tolls old new extent answer =
    MatchResult answer (IsRightLoading loading policy limits tolls old new extent)
    (λ costly. StopsAt loading policy limits tolls old new extent costly.at costly.excess
    × (costly.excess ≢ OutOfMemory → CostsTooMuch loading policy limits tolls old extent
    costly.pickle costly.at costly.excess))

-- the line of a yes about one pickle, or about a row
abbrev pub accepted_line : Extent → YesAll → List ℕ
accepted_line OnePickle accepted = yes_line accepted.taken (length accepted.imports)
accepted_line ToTheEnd accepted =
    yes_all_line accepted.taken accepted.pickles (length accepted.imports)

-- `bill: levels L, weight W, work S, clash C, memory M`
abbrev pub bill_line : Tally → ℕ → List ℕ
bill_line tally memory =
    codes "bill: levels "
    ++ (decimal tally.levels
    ++ (codes ", weight "
    ++ (decimal tally.weight
    ++ (codes ", work "
    ++ (decimal tally.work
    ++ (codes ", clash "
    ++ (decimal tally.clash
    ++ (codes ", memory "
    ++ (decimal memory ++ codes "\n")))))))))

-- the lines of a yes, with the bill if it is asked for
abbrev pub yes_lines : Extent → Bool → YesWithBill → List ℕ
yes_lines extent bill accepted =
    accepted_line extent accepted.yes
    ++ (if bill then bill_line accepted.tally accepted.memory else [])

-- `no` and a refusal of one pickle, or of the pickle of a row that has this number
abbrev pub refused_line : Extent → (pickle : ℕ) → List ℕ → List ℕ
refused_line OnePickle pickle text = no_line text
refused_line ToTheEnd pickle text =
    codes "no in pickle " ++ (decimal pickle ++ (codes " " ++ (text ++ codes "\n")))

-- the lines of an answer, with the bill of a yes if it is asked for
abbrev pub costing_lines : Extent → Bool → Answer → List ℕ
costing_lines extent bill (Ok (Ok accepted)) = yes_lines extent bill accepted
costing_lines extent bill (Ok (Err refused)) =
    refused_line extent refused.pickle (no_text refused.no)
costing_lines extent bill (Err costly) =
    refused_line extent costly.pickle (costly_text costly)

-- the outcome: done for a yes, refused otherwise
abbrev pub outcome_of_costing : Answer → Outcome
outcome_of_costing (Ok (Ok accepted)) = Done
outcome_of_costing (Ok (Err refused)) = Refused
outcome_of_costing (Err costly) = Refused
