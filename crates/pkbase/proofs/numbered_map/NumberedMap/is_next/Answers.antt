-- Behind the row and with no entry above it, a number has no entry.
use Rattle.std.proofs.Common.{rules, arith}
use Rattle.pkbase.proofs.Entries.{next_is_none}
use Rattle.pkbase.proofs.numbered_map.NumberedMap.is_next.Goals as goal

pub returns-then-number-next : goal.returns-then-number-next
returns-then-number-next g c h =
    let m = c.self.inside in
    rw (← c.self.view_is)
    (next_is_none m.low.entries m.first m.ordered m.rest.entries c.self.invariant
    c.args.number (search (rules, c.is_empty.ensures, h))
    (omega (arith, c.len.ensures.value, c.if-number-next.true)))
