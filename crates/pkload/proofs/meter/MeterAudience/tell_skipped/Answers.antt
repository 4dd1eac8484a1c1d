-- All payloads are told, whatever is held.
use Rattle.std.proofs.lemmas.Result.{on_ok_weaker}
use Rattle.pkload.proofs.meter.MeterAudience.tell_skipped.Goals as goal

pub returns-then-self-clause-ok : goal.returns-then-self-clause-ok
returns-then-self-clause-ok c =
    on_ok_weaker c.tell_skipped_at_pause.result (λ meters held. meters)
    (c.tell_skipped_at_pause.ensures.ok c.args._marks)
