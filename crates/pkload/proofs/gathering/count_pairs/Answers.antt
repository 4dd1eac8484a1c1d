-- A key whose sum doesn't fit is one of those whose sum doesn't, and one object left is odd.
use Rattle.std.proofs.Common.{◌-◌, arith, subst}
use Rattle.pkload.proofs.Counted.{odd_left, pairs_great}
use Rattle.pkload.proofs.Errs.{on_err}
use Rattle.pkload.specs.Private.Lost.{IsTallyTooGreat}
use Rattle.pkload.specs.Tally.{with_key}
use Rattle.pkload.proofs.gathering.count_pairs.Goals as goal

pub returns-in_err-add-clause-err : goal.returns-in_err-add-clause-err
returns-in_err-add-clause-err c = on_err c.from_residual.result (λ even.
    pairs_great c.args.tally.now c.pairs.tally c.args.codes.now c.pairs.place
    (c.pairs.seen - c.pairs.others) c.pairs.salted c.pairs-test.true
    (omega (arith, c.pairs.invariant.0)) c.pairs.invariant.3 c.pairs.invariant.4
    (subst (λ key. IsTallyTooGreat (with_key c.pairs.tally key)) c.from_code.ensures
    c.in_err-add.ensures.err.1) even)

pub returns-then-place-gt0-clause-err : goal.returns-then-place-gt0-clause-err
returns-then-place-gt0-clause-err c = λ even.
    absurd (odd_left c.args.codes.now c.pairs.place c.if-place-gt0.true c.pairs-test.false
    (omega (arith, c.pairs.invariant.0)) c.pairs.invariant.3 even)
