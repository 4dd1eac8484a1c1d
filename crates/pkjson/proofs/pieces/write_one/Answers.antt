-- The text that was made is that of the value, and all of it is written.
use Rattle.pkjson.proofs.Parts.Pieces.{whole_written}
use Rattle.pkjson.proofs.pieces.write_one.Goals as goal

pub returns : goal.returns
returns g c = whole_written _ _ c.in-Ok.text.items _ _ c.in-Ok.ensures
    (rw (← c.as_slice.ensures.value) c.in_ok-write_all.ensures.bytes)
