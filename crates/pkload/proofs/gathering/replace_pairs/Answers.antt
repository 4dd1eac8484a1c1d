-- The objects that were counted are those of the slice.
use Rattle.pkload.proofs.Counted.{great_pairs}
use Rattle.pkload.proofs.Errs.{on_err}
use Rattle.pkload.proofs.gathering.replace_pairs.Goals as goal

pub returns-in_err-count_pairs-clause-err : goal.returns-in_err-count_pairs-clause-err
returns-in_err-count_pairs-clause-err c = on_err c.from_residual.result
    (great_pairs c.args.stack.now c.objects.result.now c.args.tally.now c.objects.ensures
    c.in_err-count_pairs.ensures.err)
