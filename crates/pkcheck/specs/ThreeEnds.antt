-- The three ends of the loop of a check, and what its audience had observed by then.
use Rattle.std.specs.Prelude.{◌≡◌, ◌++◌, ◌∷◌, [], ℕ, All, Bool, List, length, map, Option, Result}
use Rattle.std.specs.Prelude.{MatchResult, option_map}
use Rattle.pkops.specs.Limits.{Bounds}
use Rattle.pkops.specs.Payloads.{payload_limit}
use Rattle.pkops.specs.Spelling.{Instruction}
use Rattle.pkops.specs.declared.Reason.{Reason}
use Rattle.pkread.specs.Admission.{IsAllowedBy}
use Rattle.pkread.specs.Framing.{Framed}
use Rattle.pkread.specs.Pieces.{piece_of}
use Rattle.pkread.specs.Rows.{Sight, Takes}
use Rattle.pkread.specs.Sequence.{CountsAt, NoStop, spellings}
use Rattle.pkcheck.specs.Accepted.{AcceptedFrom}
use Rattle.pkcheck.specs.Heard.{refused_instruction}
use Rattle.pkimport.specs.Import.{Asked, asked_shown}
use Rattle.pkmachine.specs.Knowledge.{Policy}
use Rattle.pkcheck.specs.Reports.{AreReportsBehind, IsReportOf, Report}
use Rattle.pkcheck.specs.RowOfPickles.{AcceptedRow, AreAccepted, RefusedInRow, begins, bytes_of_all}
use Rattle.pkmachine.specs.RowRuns.{Beginning, Pickle}
use Rattle.pkcheck.specs.RunFaults.{IsFaultless}
use Rattle.pkcheck.specs.WithImports.{ImportsBefore, RefusedWithImports}
use Rattle.pkcheck.specs.declared.check_loop.Extent.{Extent}
use Rattle.pkcheck.specs.declared.check_loop.Extent.TheVariants.{OnePickle, ToTheEnd}
use Rattle.pkcheck.specs.declared.check_loop.RefusedPickle.{RefusedPickle}
use Rattle.pkcheck.specs.declared.loading.Loading.{Loading}
use Rattle.pkmachine.specs.declared.old_strings.OldStrings.{OldStrings}
use Rattle.pkcheck.specs.declared.row_of_pickles.YesAll.{YesAll}

-- the reports of these pickles, which follow those before them
abbrev pub AreReportsOf : Bool → Loading → List Pickle → List Pickle → List Report → Type 0
AreReportsOf holding loading before [] rs = rs ≡ []
AreReportsOf holding loading before (x ∷ xs) rs =
    (first : List Report) × (others : List Report) × (rs ≡ first ++ others)
    × AreReportsBehind holding loading.old_strings (begins loading.memo before)
    (length (bytes_of_all before)) [] x.instructions first
    × AreReportsOf holding loading (before ++ x ∷ []) xs others

-- the audience failed at an instruction of a pickle whose runs begin like this
pub record StoppedFrom (setting : OldStrings) (beginning : Beginning) (policy : Policy)
    (limits : Bounds) (old new : Sight) : Type 0 where
  -- the instructions before it contain no STOP; each is good, admitted and within the limit of its
  -- opcode, and so is the one at which the audience failed
  pub instructions : List Instruction
  pub instruction : Instruction
  pub goes_on : NoStop instructions
  pub admitted : All (IsAllowedBy (payload_limit limits)) (instructions ++ instruction ∷ [])
  -- exactly the bytes that spell them were taken
  pub bytes : Takes old new (spellings (instructions ++ instruction ∷ []))
  -- each of those before obeys the frame rules, and none has a fault
  pub framed : Framed (map piece_of instructions)
  pub faultless : IsFaultless setting beginning policy limits instructions

module _ (holding : Bool) (loading : Loading) (policy : Policy) (limits : Bounds) (old new : Sight)
  where
    -- the reports of the instructions of a pickle that is alone
    abbrev pub AreReports : List Instruction → List Report → Type 0
    AreReports is rs =
        AreReportsBehind holding loading.old_strings (begins loading.memo []) 0 [] is rs

    -- the pickles were accepted, and the audience observed all their instructions
    abbrev pub AcceptedAndTold : Extent → ℕ → ℕ → List Asked → List Report → Type 0
    AcceptedAndTold ToTheEnd taken pickles imports rs =
        (right : AcceptedRow loading policy limits old new taken pickles imports)
        × AreReportsOf holding loading [] right.row rs
    AcceptedAndTold OnePickle taken pickles imports rs =
        (right : AcceptedFrom loading.old_strings (begins loading.memo []) policy limits old new
        taken imports)
        × AreReports right.instructions rs × (pickles ≡ 1)

    -- a pickle of a row was refused, and the audience observed all that was read
    pub record RefusedRow (pickle at : ℕ) (reason : Reason) (pair : Option Asked)
        (imports : List Asked) (rs : List Report) : Type 0 where
      pub right : RefusedInRow loading policy limits old new pickle at reason pair
      -- the imports of the refused pickle itself, before its refused instruction
      pub imported : ImportsBefore loading.old_strings (begins loading.memo right.before)
          right.refused.instructions imports
      pub earlier : List Report
      pub last : List Report
      pub all : rs ≡ earlier ++ last
      pub of_pickles : AreReportsOf holding loading [] right.before earlier
      pub behind : AreReportsBehind holding loading.old_strings (begins loading.memo right.before)
          (length (bytes_of_all right.before)) []
          (right.refused.instructions ++ refused_instruction right.refused.why) last

    -- a pickle was refused, with the imports before its refused instruction
    abbrev pub RefusedAndTold : Extent → ℕ → ℕ → Reason → Option Asked → List Asked → List Report
        → Type 0
    RefusedAndTold ToTheEnd pickle at reason pair imports rs =
        RefusedRow pickle at reason pair imports rs
    RefusedAndTold OnePickle pickle at reason pair imports rs =
        (right : RefusedWithImports 0 loading.old_strings (begins loading.memo []) policy limits old
        new at reason pair imports)
        × AreReports (right.refused.instructions ++ refused_instruction right.refused.why) rs
        × (pickle ≡ 0)

    -- the audience failed in a row when it observed this, after all instructions before
    pub record StoppedRow (rs : List Report) (failed : Report) : Type 0 where
      pub before : List Pickle
      pub here : Sight
      pub each : AreAccepted loading policy limits old here [] before
      pub stopped : StoppedFrom loading.old_strings
          (begins loading.memo before) policy limits here new
      pub earlier : List Report
      pub last : List Report
      pub all : rs ≡ earlier ++ last
      pub of_pickles : AreReportsOf holding loading [] before earlier
      pub behind : AreReportsBehind holding loading.old_strings (begins loading.memo before)
          (length (bytes_of_all before)) [] stopped.instructions last
      pub at_last : IsReportOf holding loading.old_strings (begins loading.memo before)
          (length (bytes_of_all before)) stopped.instructions stopped.instruction failed

    abbrev pub StoppedAndTold : Extent → List Report → Report → Type 0
    StoppedAndTold ToTheEnd rs failed = StoppedRow rs failed
    StoppedAndTold OnePickle rs failed =
        (right : StoppedFrom loading.old_strings (begins loading.memo []) policy limits old new)
        × AreReports right.instructions rs
        × IsReportOf holding loading.old_strings (begins loading.memo []) 0 right.instructions
        right.instruction failed

    module _ {A : Type 0} (hears : A → A → List Report → Type 0) where
      -- the answer is right
      abbrev pub AnswersTold : A → A → Extent → Result YesAll RefusedPickle → Type 0
      AnswersTold first now extent answer = (rs : List Report)
          × MatchResult answer
          (λ yes. AcceptedAndTold extent yes.taken yes.pickles yes.imports rs)
          (λ refused. RefusedAndTold extent refused.pickle refused.no.at refused.no.reason
          (option_map asked_shown refused.no.pair) refused.imports rs)
          × hears first now rs

      -- the audience failed, and is left like this
      abbrev pub StopsTold : {X : Type 0} → (A → A → Report → X → Type 0) → A → A → Extent → X
          → Type 0
      StopsTold fails first now extent error = (rs : List Report) × (failed : Report)
          × (between : A) × StoppedAndTold extent rs failed × hears first between rs
          × fails between now failed error

-- the count of failed reads rises by one if the reason is Source, and otherwise stays the same
abbrev pub CountsTold : ℕ → ℕ → Result YesAll RefusedPickle → Type 0
CountsTold old new answer =
    MatchResult answer (λ _. new ≡ old) (λ refused. CountsAt refused.no.reason old new)
