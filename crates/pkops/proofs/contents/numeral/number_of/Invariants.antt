-- The digits passed so far say the number computed.
use Rattle.std.proofs.Common.{◌≡◌, take}
use Rattle.std.specs.Str.Parse.{digits_value}
use Rattle.pkops.proofs.contents.numeral.number_of.Given as goal

-- the number is what the digits so far say
abbrev pub invariant-digits : goal.invariant-digits
invariant-digits l = l.number ≡ digits_value 10 (take l.digit-index l.line)
