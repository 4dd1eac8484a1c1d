-- Digits only make a number greater, so one that leaves 32 bits at some digit doesn't fit.
use Rattle.std.proofs.Common.{◌+◌, ◌<◌, ◌^◌, ◌∙◌, ap, sym, arith, take_all}
use Rattle.std.specs.Str.Parse.{digits_value}
use Rattle.std.proofs.lemmas.Bool.{le-ltb, lt-ltb}
use Rattle.std.proofs.lemmas.Str.Parse.{digits_value-take-le}
use Rattle.pkops.proofs.ContentsRules.Numerals.{one_more}
use Rattle.pkops.proofs.contents.numeral.fits.Goals as goal

pub returns-in_default : goal.returns-in_default
returns-in_default c =
    let is = one_more c.digits.number c.with_digit.result c.digits.digit-index c.args.digits.now
    (omega arith) c.digits.invariant.said c.with_digit.ensures in
    let front = digits_value-take-le 10 c.args.digits.now (c.digits.digit-index + 1)
    (omega arith) in
    let above : c.with_digit.result < 4294967296 → ⊥ = c.in_default.ensures in
    sym (le-ltb (digits_value 10 c.args.digits.now) (2 ^ 32) (omega arith))

pub digits-preserved : goal.digits-preserved
digits-preserved c =
    let is = c.in-Ok.ensures.1 in
    let fits = c.in-Ok.ensures.0 in
    record {
      said = is ∙ one_more c.digits.number c.with_digit.result c.digits.digit-index
          c.args.digits.now (omega arith) c.digits.invariant.said c.with_digit.ensures;
      small = omega arith;
    }

pub returns : goal.returns
returns c =
    let whole = ap (digits_value 10)
    (take_all c.digits.digit-index c.args.digits.now c.digits-test.false) in
    let said = c.digits.invariant.said in
    let small = c.digits.invariant.small in
    sym (lt-ltb (digits_value 10 c.args.digits.now) (2 ^ 32) (omega arith))
