-- What each command answers about the files that it reads: the text for standard output, and the
-- outcome. A host reveals the bytes of a file, as `Some`, or it doesn't.
use Rattle.std.specs.Prelude.{◌≡◌, ℕ, ◌⊎◌, ◌||◌, Bool, true, false, not, List, length, string_bytes}
use Rattle.std.specs.Prelude.{IfSome, Option, Some, None, Result, Ok}
use Rattle.serde_json.specs.Data.{Data}
use Rattle.pkops.specs.Limits.{holding_all, standard}
use Rattle.pkops.specs.Printed.{refusal_text}
use Rattle.pkops.specs.declared.Refusal.{Refusal}
use Rattle.pkops.specs.declared.Reason.TheVariants as reason
use Rattle.pkread.specs.Rows.{Sight}
use Rattle.pklist.specs.Allow.{are_unsaid, cost_limits_of, document_of, limits_of, lists}
use Rattle.pkcheck.specs.Answered.{IsRightAnswer}
use Rattle.pkcheck.specs.Heard.{Heard, IsRightAndHeard}
use Rattle.pklist.specs.ListFile.{list_of}
use Rattle.pkcheck.specs.RowOfPickles.{IsRightOfRow}
use Rattle.pklist.specs.declared.Allow.{Allow}
use Rattle.pkcheck.specs.declared.Extent.{Extent}
use Rattle.pkcheck.specs.declared.Extent.TheVariants.{OnePickle, ToTheEnd}
use Rattle.pkcheck.specs.declared.Loading.{Loading}
use Rattle.pkmachine.specs.declared.Memo.TheVariants.{Fresh}
use Rattle.pkmachine.specs.declared.OldStrings.{OldStrings}
use Rattle.pkmachine.specs.declared.OldStrings.TheVariants.{Unknown}
use Rattle.pkcheck.specs.declared.Yes.{Yes}
use Rattle.pkcheck.specs.declared.No.{No}
use Rattle.pkcheck.specs.declared.YesAll.{YesAll}
use Rattle.pkcheck.specs.declared.NoAll.{NoAll}
use Rattle.pkopt.specs.Answer.{IsNotOptimized, Optimizes, TakesAsChecked}
use Rattle.pkjson.specs.Export.{IsNotExported, IsValueOf}
use Rattle.pkjson.specs.declared.ExportError.{ExportError}
use Rattle.pkargs.specs.Command.{AsksForJob, AsksForNone}
use Rattle.pkargs.specs.declared.Job.{Job}
use Rattle.pkargs.specs.declared.Job.TheVariants as job
use Rattle.pkargs.specs.declared.Pickles.{Pickles}
use Rattle.pkargs.specs.declared.Pickles.TheVariants.{First, Row}
use Rattle.pkargs.specs.declared.Usage.{Usage}
use Rattle.pkargs.specs.declared.Usage.TheVariants as usage
use Rattle.pkload.specs.Tolls.{tolls_said}
use Rattle.pkprint.specs.Costs.{Answer, IsRightCosting, costing_lines, outcome_of_costing}
use Rattle.pkprint.specs.Imports.{imports_text}
use Rattle.pkprint.specs.Listing.{listing}
use Rattle.pkprint.specs.Verdict.{no_line, outcome_of, outcome_of_row, row_line, verdict_line}
use Rattle.pkprint.specs.declared.Outcome.{Outcome}
use Rattle.pkprint.specs.declared.Outcome.TheVariants.{Done, Refused, Unread}
use Rattle.pktool.specs.Json.{error_line, value_line}
use Rattle.pktool.specs.Optimized.{sizes_line}

-- these are the bytes of the file, if the host reveals them
abbrev pub HasContent : Option (List ℕ) → List ℕ → Type 0
HasContent content bytes = IfSome content (λ known. bytes ≡ known)

-- the view of a file that was opened, and of which nothing was read
abbrev pub opened : Option (List ℕ) → Sight
opened content = record { left = content; failures = 0 }

-- the file is a list file, and this is its list
abbrev pub IsListIn : Option (List ℕ) → Allow → Type 0
IsListIn content list =
    (text : List ℕ) × HasContent content text × (list_of text ≡ Ok (document_of list))

-- `dis FILE`
abbrev pub IsListing : Option (List ℕ) → List ℕ → Outcome → Type 0
IsListing file text outcome =
    (new : Sight) × (answer : Result Yes No) × (heard : List Heard)
    × IsRightAndHeard None (holding_all standard) (opened file) new answer heard
    × (text ≡ listing answer heard) × (outcome ≡ outcome_of answer)

-- `imports FILE`
abbrev pub AreImports : Option (List ℕ) → List ℕ → Outcome → Type 0
AreImports file text outcome =
    (new : Sight) × (answer : Result Yes No)
    × IsRightAnswer Unknown None standard (opened file) new answer
    × (text ≡ imports_text answer) × (outcome ≡ outcome_of answer)

-- the line about one pickle, read from such a source under this list
abbrev pub IsVerdict : Allow → OldStrings → Sight → List ℕ → Outcome → Type 0
IsVerdict list setting old text outcome =
    (new : Sight) × (answer : Result Yes No)
    × IsRightAnswer setting (Some (lists list)) (limits_of list) old new answer
    × (text ≡ verdict_line answer) × (outcome ≡ outcome_of answer)

-- the line about a row of pickles
abbrev pub IsRowVerdict : Allow → Loading → Sight → List ℕ → Outcome → Type 0
IsRowVerdict list loading old text outcome =
    (new : Sight) × (answer : Result YesAll NoAll)
    × IsRightOfRow loading (Some (lists list)) (limits_of list) old new answer
    × (text ≡ row_line answer) × (outcome ≡ outcome_of_row answer)

-- the line about the pickles that are asked for
abbrev pub IsVerdictOn : Allow → OldStrings → Pickles → Sight → List ℕ → Outcome → Type 0
IsVerdictOn list setting First = IsVerdict list setting
IsVerdictOn list setting (Row memo) =
    IsRowVerdict list (record { memo = memo; old_strings = setting })

-- where the check ends, and how the pickles are loaded
abbrev pub extent_of : Pickles → Extent
extent_of First = OnePickle
extent_of (Row memo) = ToTheEnd

abbrev pub loading_of : OldStrings → Pickles → Loading
loading_of setting First = record { memo = Fresh; old_strings = setting }
loading_of setting (Row memo) = record { memo = memo; old_strings = setting }

-- the lines about these pickles and what loading them costs, with the bill of a yes if it is asked
-- for, under the limits on costs of the list
abbrev pub IsCostVerdict : Allow → OldStrings → Pickles → Bool → Sight → List ℕ → Outcome → Type 0
IsCostVerdict list setting pickles bill old text outcome =
    (new : Sight) × (answer : Answer)
    × IsRightCosting (loading_of setting pickles) (Some (lists list)) (limits_of list)
    (tolls_said (cost_limits_of list)) old new (extent_of pickles) answer
    × (text ≡ costing_lines (extent_of pickles) bill answer)
    × (outcome ≡ outcome_of_costing answer)

-- the list limits what loading costs, or the bill is asked for
abbrev pub asks_costs : Allow → Bool → Bool
asks_costs list bill = bill || not (are_unsaid (cost_limits_of list))

-- the answer about these pickles: with what loading costs, or without
abbrev pub IsCheckOf : (costs : Bool) → Allow → OldStrings → Pickles → (bill : Bool) → Sight
    → List ℕ → Outcome → Type 0
IsCheckOf false list setting pickles bill = IsVerdictOn list setting pickles
IsCheckOf true list setting pickles bill = IsCostVerdict list setting pickles bill

-- `check --allow LIST [--old-strings OBJECT] [--all [--one-unpickler]] [--bill] FILE`
abbrev pub IsCheck : Option (List ℕ) → OldStrings → Pickles → (bill : Bool) → Option (List ℕ)
    → List ℕ → Outcome → Type 0
IsCheck allow setting pickles bill file text outcome =
    (list : Allow) × IsListIn allow list
    × IsCheckOf (asks_costs list bill) list setting pickles bill (opened file) text outcome

-- `json FILE`
abbrev pub IsExport : Option (List ℕ) → List ℕ → Outcome → Type 0
IsExport file text Done =
    (bytes : List ℕ) × HasContent file bytes
    × (v : Data) × IsValueOf standard bytes v × (text ≡ value_line v)
IsExport file text Refused =
    (bytes : List ℕ) × HasContent file bytes
    × (error : ExportError) × IsNotExported standard bytes error × (text ≡ error_line error)
IsExport file text Unread = ⊥

-- the refusal if there is no memory for the content of a file
abbrev pub no_memory : Refusal
no_memory = record { at = 0; reason = reason.OutOfMemory }

-- `optimize FILE OUT`, where OUT was made to hold the form, as far as the host reveals that
abbrev pub IsOptimization : Option (List ℕ) → (List ℕ → Type 0) → List ℕ → Outcome → Type 0
IsOptimization file puts text Done =
    (bytes : List ℕ) × HasContent file bytes
    × (form : List ℕ) × Optimizes standard bytes form × puts form
    × (taken : ℕ) × TakesAsChecked standard bytes taken
    × (text ≡ sizes_line taken (length form))
IsOptimization file puts text Refused =
    (text ≡ no_line (refusal_text no_memory))
    ⊎ ((bytes : List ℕ) × HasContent file bytes
    × (refusal : Refusal) × IsNotOptimized standard bytes refusal
    × (text ≡ no_line (refusal_text refusal)))
IsOptimization file puts text Unread = ⊥

-- the text and the outcome are those of the right answer to a job, given the content of each path,
-- and what the file at each path was made to hold
abbrev pub IsAnswerTo : (List ℕ → Option (List ℕ)) → (List ℕ → List ℕ → Type 0) → Job → List ℕ
    → Outcome → Type 0
IsAnswerTo content puts (job.Dis file) = IsListing (content (string_bytes file))
IsAnswerTo content puts (job.Imports file) = AreImports (content (string_bytes file))
IsAnswerTo content puts (job.Check allow setting pickles bill file) =
    IsCheck (content (string_bytes allow)) setting pickles bill (content (string_bytes file))
IsAnswerTo content puts (job.Json file) = IsExport (content (string_bytes file))
IsAnswerTo content puts (job.Optimize file out) =
    IsOptimization (content (string_bytes file)) (puts (string_bytes out))

-- the text that a command line asked for
abbrev pub IsShown : Usage → List ℕ → Outcome → Type 0
IsShown (usage.Asked shown) text Done = text ≡ string_bytes shown
IsShown _ text outcome = ⊥

-- the answer to a command line: to its job; or, if it has none, the help or the version
abbrev pub IsAnswer : (List ℕ → Option (List ℕ)) → (List ℕ → List ℕ → Type 0) → List (List ℕ)
    → List ℕ → Outcome → Type 0
IsAnswer content puts words text outcome =
    ((asked : Job) × AsksForJob words asked × IsAnswerTo content puts asked text outcome)
    ⊎ (AsksForNone words × (outcome ≡ Done))
