-- A pair is written as two texts, and an unknown one as two lengths that no text has.
use Rattle.pkguard.specs.Encoding.{eight_bytes, encoded_text, greatest_number}
use Rattle.pkguard.proofs.Pieces.{written_both}
use Rattle.pkguard.proofs.encoding.put_import.Goals as goal

pub returns-in-Pair : goal.returns-in-Pair
returns-in-Pair c front before h =
    rw c.in-Pair.is
    (written_both front (encoded_text c.in-Pair.module.now)
    (encoded_text c.in-Pair.name.now) before _ _
    (c.put_text.ensures _ before (c.put_text-next.ensures front before h)))

pub returns-in-Unknown : goal.returns-in-Unknown
returns-in-Unknown c front before h =
    rw c.in-Unknown.is
    (written_both front (eight_bytes greatest_number) (eight_bytes greatest_number) before _ _
    (c.put_number.ensures _ before (c.put_number-next.ensures front before h)))
