-- What the meter billed bounds every run, so a yes keeps within the tolls and an excess is real.
use Rattle.std.proofs.Common.{inl}
use Rattle.pkmachine.specs.Policies.{permit_of}
use Rattle.pkload.proofs.Settled.{settled_count, settled_loading, settled_over, settled_stops}
use Rattle.pkload.proofs.Settled.{stopped_right, stopped_stops}
use Rattle.pkload.proofs.checking.check_loading.Goals as goal

pub returns-in-Ok-clause-answer : goal.returns-in-Ok-clause-answer
returns-in-Ok-clause-answer g c =
    let h = rw c.new-meter.ensures at c.in-Ok.ensures.answer in
    settled_loading c.args.terms.now.loading (permit_of c.args.permit.now)
    c.args.terms.now.limits c.args.tolls.now _ _ c.faultless_is_run.ensures
    c.check_pickles.new.audience h.0 c.args.terms.now.extent c.settled.result c.in-Ok.answer h.2
    h.1 c.settled.ensures.same c.settled.ensures.none c.settled.ensures.refused

pub returns-in-Ok-clause-costly : goal.returns-in-Ok-clause-costly
returns-in-Ok-clause-costly g c =
    let h = rw c.new-meter.ensures at c.in-Ok.ensures.answer in
    settled_over c.args.terms.now.loading (permit_of c.args.permit.now)
    c.args.terms.now.limits c.args.tolls.now _ _ c.faultless_is_run.ensures
    c.check_pickles.new.audience h.0 c.args.terms.now.extent c.settled.result c.in-Ok.answer h.2
    h.1 c.settled.ensures.costly

pub returns-clause-costly : goal.returns-clause-costly
returns-clause-costly g c =
    stopped_right c.args.terms.now.loading (permit_of c.args.permit.now)
    c.args.terms.now.limits c.args.tolls.now _ _ c.faultless_is_run.ensures
    c.check_pickles.new.audience c.args.terms.now.extent c.in-Err.excess c.costly_at.result
    (rw c.new-meter.ensures at c.in-Err.ensures.stopped) c.costly_at.ensures

pub returns-in-Ok-clause-stops : goal.returns-in-Ok-clause-stops
returns-in-Ok-clause-stops g c =
    let h = rw c.new-meter.ensures at c.in-Ok.ensures.answer in
    settled_stops c.args.terms.now.loading (permit_of c.args.permit.now)
    c.args.terms.now.limits c.args.tolls.now _ _ c.faultless_is_run.ensures
    c.check_pickles.new.audience h.0 c.args.terms.now.extent c.settled.result c.in-Ok.answer h.2
    h.1 c.settled.ensures.costly

pub returns-clause-stops : goal.returns-clause-stops
returns-clause-stops g c =
    stopped_stops c.args.terms.now.loading (permit_of c.args.permit.now)
    c.args.terms.now.limits c.args.tolls.now _ _ c.faultless_is_run.ensures
    c.check_pickles.new.audience c.args.terms.now.extent c.in-Err.excess c.costly_at.result
    (rw c.new-meter.ensures at c.in-Err.ensures.stopped) c.costly_at.ensures

pub returns-in-Ok-clause-count : goal.returns-in-Ok-clause-count
returns-in-Ok-clause-count g c =
    settled_count c.check_pickles.new.audience _ _ c.settled.result c.in-Ok.answer
    c.settled.ensures.same c.in-Ok.ensures.count

pub returns-clause-count : goal.returns-clause-count
returns-clause-count g c = inl c.in-Err.ensures.count
