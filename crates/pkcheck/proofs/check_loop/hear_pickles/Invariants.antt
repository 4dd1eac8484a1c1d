-- Before each turn the reader is open and the row goes well; each turn takes at least a byte.
use Rattle.std.proofs.Common.{◌≡◌, ◌-◌}
use Rattle.pkread.specs.Core.{Open}
use Rattle.pkread.specs.ReaderCalls.{state}
use Rattle.pkread.specs.Rows.{all_bytes, sight}
use Rattle.pkmachine.specs.Policies.{permit_of}
use Rattle.pkcheck.specs.Private.FirstPickle.{loading_of}
use Rattle.pkcheck.proofs.Wholes.Going.{Going}
use Rattle.pkcheck.proofs.check_loop.hear_pickles.Given as goal

abbrev pub invariant-instructions : goal.invariant-instructions
invariant-instructions g l = record {
  memo : l.row.memo ≡ l.initial.row.memo;
  extent : l.row.extent ≡ l.initial.row.extent;
  same : l.reader.source.ghost_name ≡ l.initial.reader.source.ghost_name;
  is_open : (state g.R.Source.left g.R.Source.failures l.reader).phase ≡ Open;
  going : Going g.A.Audience.holding (loading_of l.initial.row l.initial.session)
      (permit_of l.fn.policy) l.initial.session.machine.limits
      (sight g.R.Source.left g.R.Source.failures l.initial.reader.source.now)
      l.initial.row.extent g.A.Audience.hears l.initial.audience l.row.pickles l.row.apart.asked
      l.row.earlier (state g.R.Source.left g.R.Source.failures l.reader) l.session l.audience;
}

abbrev pub decreases-instructions : goal.decreases-instructions
decreases-instructions g l = all_bytes - l.reader.core.taken
