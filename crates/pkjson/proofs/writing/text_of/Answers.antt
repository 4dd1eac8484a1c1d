-- The events that the serializer got are those of the part, so its bytes are the compact text.
use Rattle.std.proofs.lemmas.Result.{IfOk-weaker}
use Rattle.pkjson.proofs.Parts.Sent.{compact}
use Rattle.pkjson.proofs.writing.text_of.Goals as goal

pub returns : goal.returns
returns c = IfOk-weaker c.to_vec.result _ _
    (λ text sent. compact c.args.nodes.now c.args.part text.items sent) c.to_vec.ensures.events
