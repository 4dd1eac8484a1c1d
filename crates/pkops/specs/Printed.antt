-- How a fault, a reason and a refusal are printed.
use Rattle.std.specs.Prelude.{ℕ, List, ◌++◌, codes, decimal, Option, Some, None}
use Rattle.pkops.specs.declared.fault.Fault.{Fault}
use Rattle.pkops.specs.declared.fault.Fault.TheVariants.{UnknownOpcode, BadArgument, TooLarge}
use Rattle.pkops.specs.declared.refusal.Reason.{Reason}
use Rattle.pkops.specs.declared.refusal.Reason.TheVariants as reason
use Rattle.pkops.specs.declared.refusal.Refusal.{Refusal}

abbrev pub fault_text : Fault → List ℕ
fault_text (UnknownOpcode code) = codes "UnknownOpcode(" ++ (decimal code ++ codes ")")
fault_text BadArgument = codes "BadArgument"
fault_text TooLarge = codes "TooLarge"

-- the name of each reason
abbrev pub reason_name : Reason → List ℕ
reason_name reason.Source = codes "Source"
reason_name reason.Truncated = codes "Truncated"
reason_name (reason.UnknownOpcode code) = codes "UnknownOpcode"
reason_name reason.BadArgument = codes "BadArgument"
reason_name reason.TooLarge = codes "TooLarge"
reason_name reason.ExtensionCode = codes "ExtensionCode"
reason_name (reason.UnsupportedProtocol version) = codes "UnsupportedProtocol"
reason_name reason.BrokenFrame = codes "BrokenFrame"
reason_name reason.MissingMark = codes "MissingMark"
reason_name reason.MissingItem = codes "MissingItem"
reason_name (reason.MissingMemo number) = codes "MissingMemo"
reason_name reason.OddItems = codes "OddItems"
reason_name reason.WrongClass = codes "WrongClass"
reason_name reason.NotText = codes "NotText"
reason_name reason.UnknownImport = codes "UnknownImport"
reason_name reason.ImportOffList = codes "ImportOffList"
reason_name reason.LeftOver = codes "LeftOver"
reason_name reason.NotAscii = codes "NotAscii"
reason_name reason.OutOfMemory = codes "OutOfMemory"

-- the number that a reason carries: a code byte, a protocol or a memo number
abbrev pub number_told : Reason → Option ℕ
number_told (reason.UnknownOpcode code) = Some code
number_told (reason.UnsupportedProtocol version) = Some version
number_told (reason.MissingMemo number) = Some number
number_told _ = None

-- a name, followed by its number in parentheses if it has one
abbrev pub with_number : List ℕ → Option ℕ → List ℕ
with_number name None = name
with_number name (Some number) = name ++ (codes "(" ++ (decimal number ++ codes ")"))

abbrev pub reason_text : Reason → List ℕ
reason_text why = with_number (reason_name why) (number_told why)

-- `at P: REASON`
abbrev pub refusal_text : Refusal → List ℕ
refusal_text refusal =
    codes "at " ++ (decimal refusal.at ++ (codes ": " ++ reason_text refusal.reason))
