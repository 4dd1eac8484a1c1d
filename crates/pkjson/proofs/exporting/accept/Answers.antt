-- With payloads held, a yes or no of the check is the one that the export goes by.
use Rattle.std.proofs.Common.{ap, Some}
use Rattle.pkjson.proofs.Runs.RunToStop.{accepted_as}
use Rattle.pkjson.proofs.exporting.accept.Goals as goal

pub returns-in-Ok-clause-ok : goal.returns-in-Ok-clause-ok
returns-in-Ok-clause-ok c = accepted_as c.args.limits.now c.args.bytes.now
    c.holding_all.ensures (ap (λ b. record { left = Some b; failures = 0 }) c.new-source.ensures)
    c.in-Ok.ensures.answer
