-- The slim form measures the same whether it was made or is given part by part.
use Rattle.std.proofs.Common.{◌∙◌, List, ℕ, subst}
use Rattle.pkopt.specs.Private.Sinks.{Measures}
use Rattle.pkopt.proofs.OneFrame.Fronts.{measured}
use Rattle.pkopt.proofs.writing.measure_of.Goals as goal

pub returns-in_ok-take-in-Some : goal.returns-in_ok-take-in-Some
returns-in_ok-take-in-Some c =
    let m = c.take.new.self in
    let made = rw c.in-Some.is at c.requires.made in
    subst (λ (l : List ℕ). Measures m l) (c.bytes.ensures ∙ made)
    (measured _ m _ c.new-measure.ensures c.in_ok-take-in-Some.ensures)

pub returns-in_ok-give_slim-in-None : goal.returns-in_ok-give_slim-in-None
returns-in_ok-give_slim-in-None c =
    measured _ c.give_slim.new.sink _ c.new-measure.ensures c.in_ok-give_slim-in-None.ensures
