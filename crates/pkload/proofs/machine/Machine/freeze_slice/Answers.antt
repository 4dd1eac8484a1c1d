-- The memory of the objects of a slice doesn't fit.
use Rattle.std.proofs.Common.{subst}
use Rattle.pkops.specs.declared.Op.TheVariants as op
use Rattle.pkload.proofs.Errs.{on_err}
use Rattle.pkload.proofs.Losses.{frozenset_sum}
use Rattle.pkload.specs.Private.Billing.{op_billed}
use Rattle.pkload.specs.Unkept.{IsLost}
use Rattle.pkload.proofs.machine.Machine.freeze_slice.Goals as goal

pub returns-in_err-self-inside-clause-lost : goal.returns-in_err-self-inside-clause-lost
returns-in_err-self-inside-clause-lost c = on_err c.from_residual-in_err-self-inside.result
    (subst (λ bill. IsLost (op_billed op.FrozenSet bill) bill) c.self.view_is
    (frozenset_sum _ _ c.in_ok-count.count c.in_ok-count.ensures.ok.keys.found
    c.in_err-self-inside.field-0.0 c.in_err-self-inside.ensures.err))
