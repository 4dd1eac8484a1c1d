-- A key whose sum doesn't fit is one of those whose sum doesn't.
use Rattle.std.proofs.Common.{◌-◌, arith, subst}
use Rattle.pkload.proofs.Counted.{items_great}
use Rattle.pkload.proofs.Errs.{on_err}
use Rattle.pkload.specs.Private.Lost.{IsTallyTooGreat}
use Rattle.pkload.specs.Tally.{with_key}
use Rattle.pkload.proofs.gathering.count_items.Goals as goal

pub returns-in_err-add-clause-err : goal.returns-in_err-add-clause-err
returns-in_err-add-clause-err c = on_err c.from_residual.result
    (items_great c.args.tally.now c.keys.tally c.args.codes.now c.keys.place
    (c.keys.seen - c.keys.others) c.keys.salted c.keys-test.true
    (omega (arith, c.keys.invariant.0)) c.keys.invariant.3
    (subst (λ key. IsTallyTooGreat (with_key c.keys.tally key)) c.from_code.ensures
    c.in_err-add.ensures.err.1))
