-- What is stored under the number of entries is the write that the trace counts.
use Rattle.std.proofs.Common.{rules}
use Rattle.pkopt.proofs.MemoWrites.Followed.{noted_next}
use Rattle.pkopt.proofs.trace.Trace.write_next.Goals as goal

pub returns-clause-noted : goal.returns-clause-noted
returns-clause-noted c = λ ws h. noted_next ws c.args.self.now _ (search rules)
    c.in_ok-store_next.ensures.ok h
