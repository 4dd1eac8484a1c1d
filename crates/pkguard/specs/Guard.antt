-- What the verdicts for C mean.
use Rattle.std.specs.Prelude.{◌≡◌, ◌≢◌, ◌≤◌, ◌++◌, ◌⊎◌, ℕ, List, length, drop, leb, codes, Option}
use Rattle.std.specs.Prelude.{if◌then◌else◌, Some, None, Ok, Err, false, true}
use Rattle.std.specs.Str.{IsUtf8}
use Rattle.toml.specs.Data.{Members, get_member}
use Rattle.toml.specs.Errors.{IsBlank}
use Rattle.pkops.specs.Limits.{Bounds}
use Rattle.pkops.specs.declared.Reason.{Reason}
use Rattle.pkread.specs.Rows.{Sight}
use Rattle.pkmachine.specs.Knowledge.{Policy}
use Rattle.pkimport.specs.Import.{Asked, AskedPair}
use Rattle.pklist.specs.Allow.{are_unsaid}
use Rattle.pklist.specs.ListFile.{cost_limits_in, limits_in, list_of, lists_in}
use Rattle.pkcheck.specs.Accepted.{Accepted}
use Rattle.pkcheck.specs.Refused.{Refused}
use Rattle.pkcheck.specs.RowOfPickles.{AcceptedRow, RefusedInRow}
use Rattle.pkmachine.specs.RowRuns.{Afresh}
use Rattle.pkcheck.specs.WithImports.{RefusedWithImports}
use Rattle.pklist.specs.declared.AllowError.{AllowError}
use Rattle.pklist.specs.declared.AllowError.TheVariants.{Syntax, OutOfMemory}
use Rattle.pklist.specs.declared.CostLimits.{CostLimits}
use Rattle.pkcheck.specs.declared.Loading.{Loading}
use Rattle.pkmachine.specs.declared.OldStrings.{OldStrings}
use Rattle.pkguard.specs.declared.settings.Settings.{Settings}
use Rattle.pkguard.specs.declared.verdict.Verdict.{Verdict}
use Rattle.pkguard.specs.Codes.{reason_code, reason_number, fault_code}
use Rattle.pkguard.specs.Encoding.{encoded_all, wanted_by}
use Rattle.pkguard.specs.Listed.{pairs_in, settings_with}
use Rattle.pkguard.specs.Settings.{old_strings_in}

-- a source of these bytes
abbrev pub memory : List ℕ → Sight
memory bytes = record { left = Some bytes; failures = 0 }

-- what a call answers: its status is that of the verdict, 0 for a yes, 1 for a no, 2 for a fault of
-- the list, and 3 for settings that are not supported
pub record Answers (result : ℕ) (verdict : Verdict) (Yes No Fault Usage : Type 0) : Type 0 where
  pub status : result ≡ verdict.status
  pub bound : verdict.status ≤ 3
  pub yes : verdict.status ≡ 0 → Yes
  pub no : verdict.status ≡ 1 → No
  pub fault : verdict.status ≡ 2 → Fault
  pub usage : verdict.status ≡ 3 → Usage

-- an empty verdict
abbrev pub nothing_told : Verdict
nothing_told = record {
  status = 0;
  reason = 0;
  number = 0;
  has_pair = 0;
  at = 0;
  taken = 0;
  imports = 0;
  module_length = 0;
  name_length = 0;
  pickles = 0;
}

-- the verdict if this many pickles are accepted
abbrev pub verdict_of_yes : (taken imports pickles : ℕ) → Verdict
verdict_of_yes taken imports pickles = record nothing_told {
  taken = taken;
  imports = imports;
  pickles = pickles;
}

-- the verdict for a refusal after this many accepted pickles
abbrev no_alone : ℕ → Reason → ℕ → Verdict
no_alone at reason pickles = record nothing_told {
  status = 1;
  reason = reason_code reason;
  number = reason_number reason;
  at = at;
  pickles = pickles;
}

-- the verdict for a refusal, with the lengths of the names in its pair, if it has one
abbrev pub verdict_of_no : ℕ → Reason → Option Asked → ℕ → Verdict
verdict_of_no at reason (Some (AskedPair module_name name)) pickles =
    record (no_alone at reason pickles) {
      has_pair = 1;
      module_length = length module_name;
      name_length = length name;
    }
verdict_of_no at reason _ pickles = no_alone at reason pickles

-- the verdict for a refusal after this many imports, if every import is permitted
abbrev pub verdict_behind : ℕ → Reason → ℕ → Verdict
verdict_behind at reason imports = record (no_alone at reason 0) { imports = imports }

-- the verdict for a list file that cannot be read
abbrev pub verdict_of_fault : AllowError → Verdict
verdict_of_fault error = record nothing_told { status = 2; reason = fault_code error }

-- the verdict for unsupported settings
abbrev pub verdict_of_usage : Verdict
verdict_of_usage = record nothing_told { status = 3 }

-- the bytes at the front of the buffer if they fit, otherwise the buffer unchanged
abbrev pub placed : List ℕ → List ℕ → List ℕ
placed bytes room =
    if leb (length bytes) (length room) then bytes ++ drop (length bytes) room else room

-- the module and name of a pair at the front of the buffer, one after the other
abbrev pub names_placed : Option Asked → List ℕ → List ℕ
names_placed (Some (AskedPair module_name name)) room = placed (module_name ++ name) room
names_placed _ room = room

-- the pickle at the front of the bytes is accepted, with Python 2 strings decoded as `old` says
pub record IsYes (old : OldStrings) (policy : Policy) (limits : Bounds)
    (pickle before after : List ℕ) (verdict : Verdict) : Type 0 where
  pub rest : List ℕ
  pub imports : List Asked
  pub accepted : Accepted old policy limits (memory pickle) (memory rest) verdict.taken imports
  pub told : verdict ≡ verdict_of_yes verdict.taken (length imports) 1
  pub room : after ≡ before

-- the pickle at the front of the bytes is refused, at an offset and for a reason; the buffer holds
-- the names of the pair that is off the list
pub record IsNo (old : OldStrings) (policy : Policy) (limits : Bounds)
    (pickle before after : List ℕ) (verdict : Verdict) : Type 0 where
  pub rest : List ℕ
  pub why : Reason
  pub pair : Option Asked
  pub refused : Refused old policy limits (memory pickle) (memory rest) verdict.at why pair
  pub told : verdict ≡ verdict_of_no verdict.at why pair 0
  pub room : after ≡ names_placed pair before

-- the bytes are one or more pickles in a row, and each is accepted
pub record IsYesOfRow (loading : Loading) (policy : Policy) (limits : Bounds)
    (pickles before after : List ℕ) (verdict : Verdict) : Type 0 where
  pub rest : List ℕ
  pub imports : List Asked
  pub accepted : AcceptedRow loading policy limits (memory pickles) (memory rest) verdict.taken
      verdict.pickles imports
  pub told : verdict ≡ verdict_of_yes verdict.taken (length imports) verdict.pickles
  pub room : after ≡ before

-- a pickle of the row is refused, at an offset and for a reason, and those before it are accepted
pub record IsNoOfRow (loading : Loading) (policy : Policy) (limits : Bounds)
    (pickles before after : List ℕ) (verdict : Verdict) : Type 0 where
  pub rest : List ℕ
  pub why : Reason
  pub pair : Option Asked
  pub refused : RefusedInRow loading policy limits (memory pickles) (memory rest) verdict.pickles
      verdict.at why pair
  pub told : verdict ≡ verdict_of_no verdict.at why pair verdict.pickles
  pub room : after ≡ names_placed pair before

-- why the text is not a list file: it breaks a rule, or an allocation was refused. The latter
-- cannot happen for a text of spaces, line ends and comments
abbrev pub IsNoListText : List ℕ → AllowError → Type 0
IsNoListText text error = (list_of text ≡ Err error) ⊎ ((error ≡ OutOfMemory) × (¬ IsBlank text))

-- why the bytes are not a list file: they are not UTF-8, or their text is not one
abbrev pub IsNoList : List ℕ → AllowError → Type 0
IsNoList bytes error =
    ((¬ IsUtf8 bytes) × (error ≡ Syntax)) ⊎ (IsUtf8 bytes × IsNoListText bytes error)

-- the list file cannot be read
pub record IsListFault (list before after : List ℕ) (verdict : Verdict) : Type 0 where
  pub error : AllowError
  pub fault : IsNoList list error
  pub told : verdict ≡ verdict_of_fault error
  pub room : after ≡ before

-- the settings are not supported
pub record IsUsage (settings : Settings) (before after : List ℕ) (verdict : Verdict) : Type 0 where
  pub unserved : old_strings_in settings ≡ None
  pub told : verdict ≡ verdict_of_usage
  pub room : after ≡ before

-- the pickle at the front of the bytes is accepted with every import permitted, and its imports are
-- in the buffer if it has room for all of them
pub record IsImports (old : OldStrings) (limits : Bounds) (pickle before after : List ℕ)
    (wanted : ℕ) (verdict : Verdict) : Type 0 where
  pub rest : List ℕ
  pub imports : List Asked
  pub accepted : Accepted old None limits (memory pickle) (memory rest) verdict.taken imports
  pub told : verdict ≡ verdict_of_yes verdict.taken (length imports) 1
  pub asks : wanted ≡ wanted_by imports
  pub room : after ≡ placed (encoded_all imports) before

-- the pickle at the front of the bytes is refused with every import permitted, at an offset and for
-- a reason; the imports of the instructions before that offset are in the buffer if it has room for
-- all of them
pub record IsImportsBefore (old : OldStrings) (limits : Bounds) (pickle before after : List ℕ)
    (wanted : ℕ) (verdict : Verdict) : Type 0 where
  pub rest : List ℕ
  pub why : Reason
  pub imports : List Asked
  pub refused : RefusedWithImports 0 old Afresh None limits (memory pickle) (memory rest)
      verdict.at why None imports
  pub told : verdict ≡ verdict_behind verdict.at why (length imports)
  pub asks : wanted ≡ wanted_by imports
  pub room : after ≡ placed (encoded_all imports) before

-- the bytes are a list file; its limits are reported, and its pairs are in the buffer if it has
-- room for all of them
pub record IsListRead (list before after : List ℕ) (limits : Settings) (wanted : ℕ)
    (verdict : Verdict) : Type 0 where
  pub document : Members
  pub utf8 : IsUtf8 list
  pub is_list : list_of list ≡ Ok document
  pub bounds : limits ≡ settings_with (limits_in (get_member (codes "limits") document))
  pub asks : wanted ≡ wanted_by (pairs_in (get_member (codes "imports") document))
  pub room : after ≡ placed (encoded_all (pairs_in (get_member (codes "imports") document))) before
  pub told : verdict ≡ nothing_told

-- the settings do not have the size of this version
pub record IsOfAnotherSize (settings : Settings) (before after : List ℕ) (verdict : Verdict)
    : Type 0 where
  pub size : settings.size ≢ 64
  pub told : verdict ≡ verdict_of_usage
  pub room : after ≡ before

-- what a list file says of the cost of loading
abbrev pub costs_in : Members → CostLimits
costs_in document =
    cost_limits_in (get_member (codes "limits") document) (get_member (codes "rules") document)

-- the bytes are a list file that limits what loading costs
pub record IsLimitedList (list before after : List ℕ) (verdict : Verdict) : Type 0 where
  pub document : Members
  pub is_list : list_of list ≡ Ok document
  pub said : are_unsaid (costs_in document) ≡ false
  pub told : verdict ≡ verdict_of_usage
  pub room : after ≡ before

-- the policy of a list file's pairs
abbrev pub policy_in : Members → Policy
policy_in document = Some (lists_in (get_member (codes "imports") document))

-- the bytes are a list file in UTF-8 that says nothing of the cost of loading, and P holds for its
-- pairs and limits
abbrev pub Under : List ℕ → (Policy → Bounds → Type 0) → Type 0
Under list P =
    (document : Members) × IsUtf8 list × (list_of list ≡ Ok document)
    × (are_unsaid (costs_in document) ≡ true)
    × P (policy_in document) (limits_in (get_member (codes "limits") document))
