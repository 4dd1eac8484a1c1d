-- A scan has no other answer, so where it finds nothing whole there is nothing in front.
use Rattle.std.proofs.Common.{ap, ◌∙◌}
use Rattle.pkops.specs.Answer.{Whole, shown_scan}
use Rattle.pkjson.proofs.Runs.RunToStop.{front_answers, whole_same}
use Rattle.pkjson.proofs.front.scanned.Goals as goal

pub returns-in-Whole : goal.returns-in-Whole
returns-in-Whole c = λ i more e h. whole_same i _ _ _
    (c.scan.ensures.only (Whole i _) (front_answers _ _ more i e h) ∙ ap shown_scan c.in-Whole.is)

pub returns-in-More : goal.returns-in-More
returns-in-More c = λ i more e h.
    let q = c.scan.ensures.only (Whole i _) (front_answers _ _ more i e h)
    ∙ ap shown_scan c.in-More.is in cc

pub returns-in-Bad : goal.returns-in-Bad
returns-in-Bad c = λ i more e h.
    let q = c.scan.ensures.only (Whole i _) (front_answers _ _ more i e h)
    ∙ ap shown_scan c.in-Bad.is in cc
