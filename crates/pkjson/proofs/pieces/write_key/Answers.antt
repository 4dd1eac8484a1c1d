-- The key as JSON writes a string, and then a colon, are appended.
use Rattle.std.proofs.Common.{[], ◌∷◌, ◌∙◌}
use Rattle.std.proofs.lemmas.Result.{on_ok_weaker}
use Rattle.serde_json.specs.Data.{string}
use Rattle.serde_json.specs.Written.{compact_text}
use Rattle.serde_json.proofs.FreeTexts.{text_of_str}
use Rattle.pkcheck.specs.Appended.{appends_then}
use Rattle.pkjson.proofs.pieces.write_key.Goals as goal

pub returns : goal.returns
returns g c =
    let sent = c.in-Ok.ensures.events in
    let is = text_of_str c.args.key.now sent.0 c.in-Ok.text.items sent.1 sent.2 in
    let before = g.W.Write.contents c.args.out.now in
    let between = g.W.Write.contents c.write_all.new.self in
    let key = rw (c.as_slice.ensures.value ∙ is) at c.in_ok-write_all.ensures.bytes in
    on_ok_weaker c.write_all-2.result
    (λ colon. appends_then before between (g.W.Write.contents c.write_all-2.new.self)
    (compact_text (string c.args.key.now)) (58 ∷ []) key colon)
    c.write_all-2.ensures.bytes
