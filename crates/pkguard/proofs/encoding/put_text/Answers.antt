-- A text is written as its length and its bytes.
use Rattle.std.proofs.Common.{length}
use Rattle.pkguard.specs.Encoding.{eight_bytes}
use Rattle.pkguard.proofs.Pieces.{written_both}
use Rattle.pkguard.proofs.encoding.put_text.Goals as goal

pub returns : goal.returns
returns c front before h =
    written_both front (eight_bytes (length c.args.text.now)) c.args.text.now before c.put.new.room
    c.put.result
    (rw c.as_bytes.ensures.value at (c.put.ensures _ before
    (c.put_number-next.ensures front before h)))
