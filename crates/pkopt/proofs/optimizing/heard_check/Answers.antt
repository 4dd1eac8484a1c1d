-- What the trace heard of an accepted pickle are all its instructions.
use Rattle.pkopt.proofs.Optimized.{is_traced}
use Rattle.pkopt.proofs.optimizing.heard_check.Goals as goal

pub returns-in-Ok-answer-clause-ok : goal.returns-in-Ok-answer-clause-ok
returns-in-Ok-answer-clause-ok c =
    let h = c.in-Ok.ensures.answer in
    is_traced c.args.limits.now c.args.bytes.now _ _ _ c.in-Ok-answer.yes h.0 c.new-trace.result
    c.check_heard-heard.new.listener c.new-source.ensures c.in-Ok-answer.is h.1
    c.new-trace.ensures h.2
