-- What is stored under the number is the write that the trace counts.
use Rattle.std.proofs.Common.{rules}
use Rattle.pkopt.proofs.MemoWrites.Followed.{noted}
use Rattle.pkopt.proofs.trace.Trace.write.Goals as goal

pub returns-clause-noted : goal.returns-clause-noted
returns-clause-noted c = λ ws h. noted ws c.args.self.now _ (search rules) c.args.number
    (search rules) h
