-- A number above the limit is a fault only if there is an object on top to be stored.
use Rattle.std.proofs.Common.{◌<◌, inl, inr, refl, arith}
use Rattle.pkstack.proofs.Moved.{stored_is}
use Rattle.pkstack.proofs.moves.remember_at.Goals as goal

pub returns-then-number-numbers-clause-err : goal.returns-then-number-numbers-clause-err
returns-then-number-numbers-clause-err g c =
    let past : c.args.limits.now.numbers < c.args.number =
    omega (arith, c.if-number-numbers.true, c.numbers.ensures.is) in (
      refl,
      inr
          (inl (
            refl,
            (
              _,
              stored_is (record { entries = c.args.stack.now; memo = c.args.memo.now })
                  c.args.number _ c.in_ok-_value.ensures.ok,
              inr (inr past),
            ),
          )),
    )
