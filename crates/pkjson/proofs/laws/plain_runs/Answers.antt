-- A plain run of a list is a run of it in which each step just goes on.
use Rattle.std.proofs.Common.{arith, length}
use Rattle.pkjson.proofs.Runs.PlainRun.{run_is}
use Rattle.pkjson.proofs.laws.plain_runs.Goals as goal

pub returns : goal.returns
returns c = λ p s. run_is p (length p) (omega arith) s
