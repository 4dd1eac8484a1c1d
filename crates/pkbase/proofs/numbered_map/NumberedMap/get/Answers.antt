-- Below the row, within it or behind it: one part alone can have the number.
use Rattle.std.proofs.Common.{◌∙◌, ◌-◌, Some, ap, arith}
use Rattle.pkbase.proofs.Entries.{at_low, at_ordered, at_rest}
use Rattle.pkbase.proofs.numbered_map.NumberedMap.get.Goals as goal

pub returns-then-number-self : goal.returns-then-number-self
returns-then-number-self g c =
    let m = c.self.inside in
    rw (← c.self.view_is)
    (c.found.ensures ∙ at_low m.low.entries m.first m.ordered m.rest.entries
    c.self.invariant c.args.number (omega arith))

pub returns-then-place-len : goal.returns-then-place-len
returns-then-place-len g c =
    let m = c.self.inside in
    let h = c.index-entries-place.is in
    let e = c.entries.ensures in
    rw (← c.self.view_is)
    (ap Some (rw e at h) ∙
    (at_ordered m.low.entries m.first m.ordered m.rest.entries c.self.invariant
    c.args.number (c.args.number - m.first) _ (omega arith) (omega arith)))

pub returns : goal.returns
returns g c =
    let m = c.self.inside in
    rw (← c.self.view_is)
    (c.found-2.ensures ∙ at_rest m.low.entries m.first m.ordered m.rest.entries
    c.self.invariant c.args.number (omega arith))
