-- The number that the digits so far say is computed, and 32 bits hold it.
use Rattle.std.proofs.Common.{◌≡◌, ◌<◌, ◌^◌, take}
use Rattle.std.specs.Str.Parse.{digits_value}
use Rattle.pkops.proofs.contents.numeral.fits.Given as goal

-- the number is what the digits so far say
abbrev pub invariant-digits : goal.invariant-digits
invariant-digits l = record {
  said : l.number ≡ digits_value 10 (take l.digit-index l.digits);
  small : l.number < 2 ^ 32;
}
