-- A pair that two operands name refers to texts of the table, because both operands do.
use Rattle.std.proofs.Common.{subst}
use Rattle.pkmachine.specs.Private.Asking.{AreNumbered}
use Rattle.pkmachine.proofs.asking.asked_by.Goals as goal

pub returns-in_ok-operands_named-in-OfOperands-clause-within
    : goal.returns-in_ok-operands_named-in-OfOperands-clause-within
returns-in_ok-operands_named-in-OfOperands-clause-within g c count h =
    let n = subst (AreNumbered count) c.in-Some-pair.ensures h in
    c.in_ok-operands_named-in-OfOperands.ensures.within count
    (rw c.value.ensures n.0) (rw c.value-in-OfOperands.ensures n.1.0)
