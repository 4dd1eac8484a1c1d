-- The numbers that C sees. They never change.
use Rattle.std.specs.Prelude.{ℕ}
use Rattle.pkops.specs.declared.Reason.{Reason}
use Rattle.pkops.specs.declared.Reason.TheVariants as reason
use Rattle.pklist.specs.declared.AllowError.{AllowError}
use Rattle.pklist.specs.declared.AllowError.TheVariants as fault
use Rattle.pklist.specs.declared.Where.TheVariants as part
use Rattle.pkload.specs.declared.Excess.{Excess}
use Rattle.pkload.specs.declared.Excess.TheVariants as excess

-- the number of each reason, from 1 on
abbrev pub reason_code : Reason → ℕ
reason_code reason.Source = 1
reason_code reason.Truncated = 2
reason_code (reason.UnknownOpcode code) = 3
reason_code reason.BadArgument = 4
reason_code reason.TooLarge = 5
reason_code reason.ExtensionCode = 6
reason_code (reason.UnsupportedProtocol version) = 7
reason_code reason.BrokenFrame = 8
reason_code reason.MissingMark = 9
reason_code reason.MissingItem = 10
reason_code (reason.MissingMemo number) = 11
reason_code reason.OddItems = 12
reason_code reason.WrongClass = 13
reason_code reason.NotText = 14
reason_code reason.UnknownImport = 15
reason_code reason.ImportOffList = 16
reason_code reason.LeftOver = 17
reason_code reason.OutOfMemory = 18
reason_code reason.NotAscii = 19

-- the number of each limit on what loading costs, from 20 on; a refused allocation has the number
-- of that reason
abbrev pub excess_code : Excess → ℕ
excess_code excess.DeepKey = 20
excess_code excess.HeavyKeys = 21
excess_code excess.ManyKeys = 22
excess_code excess.MuchMemory = 23
excess_code excess.BuildsImport = 24
excess_code excess.OutOfMemory = 18

-- the number that a reason carries: a code byte, a protocol or a memo number; otherwise 0
abbrev pub reason_number : Reason → ℕ
reason_number (reason.UnknownOpcode code) = code
reason_number (reason.UnsupportedProtocol version) = version
reason_number (reason.MissingMemo number) = number
reason_number _ = 0

-- the number of each error in a list file, from 1 on
abbrev pub fault_code : AllowError → ℕ
fault_code fault.Syntax = 1
fault_code (fault.Shape part.Version) = 2
fault_code (fault.Shape part.TopKey) = 3
fault_code (fault.Shape part.Imports) = 4
fault_code (fault.Shape part.Module) = 5
fault_code (fault.Shape part.Name) = 6
fault_code fault.Version = 7
fault_code fault.OutOfMemory = 8
fault_code (fault.Shape part.Limits) = 9
fault_code (fault.Shape part.LimitKey) = 10
fault_code (fault.Shape part.Limit) = 11
fault_code (fault.Shape part.Rules) = 12
fault_code (fault.Shape part.RuleKey) = 13
fault_code (fault.Shape part.Rule) = 14
fault_code (fault.Shape part.Substitutes) = 15
fault_code (fault.Shape part.Substitute) = 16
