-- An offset laid out in five columns is the text of a position.
use Rattle.pkprint.proofs.Positions.{position_text-is}
use Rattle.pkprint.proofs.printing.listing.write_position.Goals as goal

pub returns : goal.returns
returns g c = let e = c.laid_out.ensures in let h = rw e at c.write.ensures.bytes in
    rw (← position_text-is c.args.at) h
