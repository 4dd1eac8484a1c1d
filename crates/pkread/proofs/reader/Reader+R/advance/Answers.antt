-- The bytes dropped from the source are as many as are counted, so the state moves beyond them.
use Rattle.pkread.proofs.Calls.AtHand.{is_beyond}
use Rattle.pkread.proofs.reader.Reader+R.advance.Goals as goal

pub returns-clause-after : goal.returns-clause-after
returns-clause-after g c =
    rw c.count_lent.ensures (is_beyond _ _ _ c.args.count c.requires.none c.advance.ensures.took
    c.advance.ensures.count)
