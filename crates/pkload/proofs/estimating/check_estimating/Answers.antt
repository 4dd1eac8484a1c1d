-- What is answered below a ceiling that is within the limits is right within them.
use Rattle.pkmachine.specs.Policies.{permit_of}
use Rattle.pkload.proofs.Declined.{answer_within}
use Rattle.pkload.proofs.estimating.check_estimating.Goals as goal

pub returns-then-fits_under : goal.returns-then-fits_under
returns-then-fits_under g c =
    let h = rw c.new-estimate.ensures at c.in-Ok.ensures.answer in
    let fits = rw c.bytes_of.ensures at c.fits_under.ensures c.if-fits_under.true in
    answer_within c.args.terms.now.loading (permit_of c.args.permit.now) c.args.terms.now.limits
    c.args.tolls.now _ _ c.faultless_is_run.ensures c.args.terms.now.extent c.in-Ok.answer h.0
    c.check_pickles.new.audience.ceiling c.in-OnePickle.is h.1 h.2 fits
