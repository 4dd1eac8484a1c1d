-- Bytes for which there was no memory were taken from the source all the same.
use Rattle.pktool.proofs.Exports.{takes_then}
use Rattle.pktool.proofs.gathering.take_all.Goals as goal

pub returns-in_default-extend_from_slice-clause-some
    : goal.returns-in_default-extend_from_slice-clause-some
returns-in_default-extend_from_slice-clause-some g c = (
  _,
  takes_then c.blocks-2.invariant
      (record { bytes = c.in-Ok.ensures.bytes.1; count = c.in-Ok.ensures.count }),
)
