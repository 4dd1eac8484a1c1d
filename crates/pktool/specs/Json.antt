-- A plain pickle as JSON: what is read, what is written, and how the command ends.
use Rattle.std.specs.Prelude.{◌≡◌, ℕ, ◌+◌, ◌%◌, ◌^◌, List, ◌++◌, codes, decimal, Option}
use Rattle.std.specs.Io.KnownBytes.{Appends, IsAtEnd}
use Rattle.serde_json.specs.Data.{Data}
use Rattle.serde_json.specs.Written.{compact_text}
use Rattle.pkops.specs.Limits.{Bounds}
use Rattle.pkops.specs.Table.{row_of}
use Rattle.pkops.specs.declared.Op.{Op}
use Rattle.pkops.specs.Printed.{refusal_text}
use Rattle.pkread.specs.Rows.{Sight, Takes}
use Rattle.pkjson.specs.Export.{IsNotExported, IsValueOf}
use Rattle.pkjson.specs.declared.ExportError.{ExportError}
use Rattle.pkjson.specs.declared.ExportError.TheVariants.{Check, NotPlain, Key, Number, TooDeep}
use Rattle.pkjson.specs.declared.ExportError.TheVariants.{TooMany, OutOfMemory}
use Rattle.pkprint.specs.Verdict.{no_line}
use Rattle.pkprint.specs.declared.Outcome.{Outcome}
use Rattle.pkprint.specs.declared.Outcome.TheVariants.{Done, Refused, Unread}

-- these are all the bytes of the source, and no read failed
abbrev pub ReadsWhole : Sight → Sight → List ℕ → Type 0
ReadsWhole old new bytes = Takes old new bytes × IsAtEnd new.left

-- the count of failed reads went up by one
abbrev pub OneFailed : ℕ → ℕ → Type 0
OneFailed old new = new ≡ (old + 1) % (2 ^ 64)

-- the compact text of a value, and a line feed
abbrev pub value_line : Data → List ℕ
value_line v = compact_text v ++ codes "\n"

-- `no at P: REASON`
abbrev pub fault_line : ℕ → List ℕ → List ℕ
fault_line at reason = codes "no at " ++ (decimal at ++ (codes ": " ++ (reason ++ codes "\n")))

-- `no at P: NotPlain(NAME)`
abbrev pub not_plain_line : ℕ → Op → List ℕ
not_plain_line at op =
    codes "no at "
    ++ (decimal at ++ (codes ": NotPlain(" ++ ((row_of op).name ++ codes ")\n")))

-- the line of an export error
abbrev pub error_line : ExportError → List ℕ
error_line (Check refusal) = no_line (refusal_text refusal)
error_line (NotPlain at op) = not_plain_line at op
error_line (Key at) = fault_line at (codes "Key")
error_line (Number at) = fault_line at (codes "Number")
error_line TooDeep = codes "no: TooDeep\n"
error_line TooMany = codes "no: TooMany\n"
error_line OutOfMemory = codes "no: OutOfMemory\n"

-- the error is the one for all bytes of the source; `OutOfMemory` may come before all of them are
-- read
abbrev pub IsErrorFor : Bounds → Sight → Sight → ExportError → Type 0
IsErrorFor limits old new OutOfMemory = (bytes : List ℕ) × Takes old new bytes
IsErrorFor limits old new error =
    (bytes : List ℕ) × ReadsWhole old new bytes × IsNotExported limits bytes error

-- how the command ends: with the line of the value of all bytes, with the line of the error, or,
-- exactly if a read failed, with no line
abbrev pub EndsWith : Bounds → Sight → Sight → Option (List ℕ) → Option (List ℕ) → Outcome → Type 0
EndsWith limits old new before after Done =
    (bytes : List ℕ) × ReadsWhole old new bytes
    × (v : Data) × IsValueOf limits bytes v × Appends before after (value_line v)
EndsWith limits old new before after Refused =
    (error : ExportError) × IsErrorFor limits old new error
    × Appends before after (error_line error)
EndsWith limits old new before after Unread =
    OneFailed old.failures new.failures × (after ≡ before)
