-- The bytes gathered so far are those that the source has given.
use Rattle.std.proofs.Common.{◌-◌, ◌^◌, length}
use Rattle.pkread.specs.Rows.{Takes, sight}
use Rattle.pktool.proofs.gathering.take_all.Given as goal

abbrev pub invariant-blocks-2 : goal.invariant-blocks-2
invariant-blocks-2 g l =
    Takes (sight g.R.Source.left g.R.Source.failures l.initial.source)
    (sight g.R.Source.left g.R.Source.failures l.source) l.bytes.items

abbrev pub decreases-blocks-2 : goal.decreases-blocks-2
decreases-blocks-2 g l = 2 ^ 64 - length l.bytes.items
