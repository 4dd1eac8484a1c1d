-- A count in the buffer and so many bytes passed over are an argument that is skipped.
use Rattle.std.proofs.Common.{ap, ◌∙◌}
use Rattle.std.proofs.lemmas.Result.{err_from_is_err_and}
use Rattle.pkread.specs.Private.Progress.{intake}
use Rattle.pkread.proofs.Bytes.Skipped.{payload_skips, payload_stops_skipping}
use Rattle.pkread.proofs.gathering.Gathering.skip_argument.Goals as goal

pub returns-in_err-skip_payload-clause-skips : goal.returns-in_err-skip_payload-clause-skips
returns-in_err-skip_payload-clause-skips g c =
    let p = err_from_is_err_and c.from_residual-in_err-skip_payload.result
    c.from_residual-in_err-skip_payload.ensures.1 in
    let laws = c.growth.ensures in
    let s = c.in_err-skip_payload.ensures.skips in
    let new = intake g.R.Source.left g.R.Source.failures c.skip_payload.new.source
    c.skip_payload.new.self in
    let limit = c.passed-limit.ensures.is ∙ ap (λ l. l.passed) c.limits.ensures in
    rw (p.1, p.2, ← limit) (payload_stops_skipping _ c.in_ok-length.length c.args.op _ _
    new c.requires.code c.count_width.ensures c.in_ok-length.ensures.takes laws.begun laws.count _
    s.0 s.1)

pub returns-clause-skips : goal.returns-clause-skips
returns-clause-skips g c =
    let s = c.in_ok-skip_payload.ensures.skips in
    let new = intake g.R.Source.left g.R.Source.failures c.skip_payload.new.source
    c.skip_payload.new.self in
    let limit = c.passed-limit.ensures.is ∙ ap (λ l. l.passed) c.limits.ensures in
    rw (← limit) (payload_skips _ c.in_ok-length.length c.args.op _ _ new
    c.requires.code c.count_width.ensures c.in_ok-length.ensures.takes c.growth.ensures.count
    s.0 s.1)
