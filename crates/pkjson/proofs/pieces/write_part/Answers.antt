-- Of the text of an array or an object, all between its brackets is the part that is written.
use Rattle.std.proofs.lemmas.Result.{on_ok_weaker}
use Rattle.pkjson.proofs.Parts.Pieces.{array_long, array_written, object_long, object_written}
use Rattle.pkjson.proofs.Parts.Pieces.{whole_written}
use Rattle.pkjson.proofs.pieces.write_part.Goals as goal

pub returns-in-Object : goal.returns-in-Object
returns-in-Object g c =
    let text = rw c.in-Object.is at c.in-Ok.ensures in
    rw c.in-Object.is
    (on_ok_weaker c.write_all.result
    (λ p. whole_written _ _ c.in-Ok.text.items _ _ text (rw (← c.as_slice.ensures.value) p))
    c.write_all.ensures.bytes)

pub write_inside-requires : goal.write_inside-requires
write_inside-requires g c =
    let text = rw c.in-Items.is at c.in-Ok.ensures in
    rw c.as_slice-in-Items.ensures.value (array_long _ _ c.in-Ok.text.items text)

pub returns-in-Items : goal.returns-in-Items
returns-in-Items g c =
    let text = rw c.in-Items.is at c.in-Ok.ensures in
    rw c.in-Items.is
    (on_ok_weaker c.write_inside.result
    (λ p. array_written _ _ c.in-Ok.text.items _ _ text
    (rw (← c.as_slice-in-Items.ensures.value) p))
    c.write_inside.ensures)

pub write_inside-requires-in-Members : goal.write_inside-requires-in-Members
write_inside-requires-in-Members g c =
    let text = rw c.in-Members.is at c.in-Ok.ensures in
    rw c.as_slice-in-Members.ensures.value (object_long _ _ c.in-Ok.text.items text)

pub returns : goal.returns
returns g c =
    let text = rw c.in-Members.is at c.in-Ok.ensures in
    rw c.in-Members.is
    (on_ok_weaker c.write_inside-in-Members.result
    (λ p. object_written _ _ c.in-Ok.text.items _ _ text
    (rw (← c.as_slice-in-Members.ensures.value) p))
    c.write_inside-in-Members.ensures)
