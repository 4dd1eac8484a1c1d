-- A memo number is small, so no number that its first digits say overflows 32 bits.
use Rattle.std.proofs.Common.{◌+◌, ◌*◌, ap, arith, refl}
use Rattle.pkops.proofs.ContentsRules.Numerals.{one_more, one_more_small}
use Rattle.pkops.proofs.contents.numeral.number_of.Goals as goal

pub overflow_mul-number : goal.overflow_mul-number
overflow_mul-number c =
    let small = one_more_small c.digits.number _ c.digits.digit-index c.args.line.now c.requires
    c.digits-test.true c.digits.invariant refl in
    omega arith

pub overflow_add-number : goal.overflow_add-number
overflow_add-number c =
    let small = one_more_small c.digits.number (c.digits.number * 10 + c.value_of.result)
    c.digits.digit-index c.args.line.now c.requires c.digits-test.true c.digits.invariant
    (ap (λ d. c.digits.number * 10 + d) c.value_of.ensures) in
    omega arith

pub digits-preserved : goal.digits-preserved
digits-preserved c =
    one_more c.digits.number (c.digits.number * 10 + c.value_of.result) c.digits.digit-index
    c.args.line.now c.digits-test.true c.digits.invariant
    (ap (λ d. c.digits.number * 10 + d) c.value_of.ensures)
