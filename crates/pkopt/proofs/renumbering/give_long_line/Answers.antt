-- Code, digits and line feed, given one after the other, are given as one line.
use Rattle.std.proofs.Common.{[], ◌∷◌, ◌++◌, ◌∙◌}
use Rattle.pkopt.proofs.Pieces.{on_ok}
use Rattle.pkopt.proofs.renumbering.give_long_line.Goals as goal

pub returns : goal.returns
returns g c = on_ok _ _ c.take-3.result c.take-3.ensures (λ h.
    let line_end = 10 ∷ [] in
    let text = c.as_bytes.result.now in
    let both = g.met.S.Sink.takes_more _ _ _ text line_end c.in_ok-take-2.ensures h in
    let all = g.met.S.Sink.takes_more _ _ _ (c.code.result ∷ [])
    (text ++ line_end) c.in_ok-take.ensures both in
    rw (c.as_bytes.ensures.value ∙ c.format.ensures.text) at
    (rw c.code.ensures at all))
