-- A byte that came after STOP opens the reader anew; at the end of the source it stays ended.
use Rattle.std.proofs.Common.{refl}
use Rattle.pkread.proofs.Calls.Again.{is_ended_so, steps_again}
use Rattle.pkread.proofs.reader.Reader+R.again.Goals as goal

pub returns-clause-steps : goal.returns-clause-steps
returns-clause-steps g c =
    let e = c.again.ensures in
    steps_again _ _ _ _ _ _ refl refl e.none (is_ended_so c.args.self.now.core.phase c.requires)
    e.kept.0 e.kept.1 e.kept.2 c.again.result e.room e.byte e.end e.place e.err
