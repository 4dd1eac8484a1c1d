-- With no entry behind the row, the number next in order goes to its end.
use Rattle.std.proofs.Common.{rules, arith}
use Rattle.std.proofs.lemmas.Result.{on_err_weaker, on_ok_weaker}
use Rattle.pkbase.proofs.Entries.{next_is_none, put_next}
use Rattle.pkbase.proofs.numbered_map.NumberedMap.store.Goals as goal

pub returns-then-is_empty-clause-ok : goal.returns-then-is_empty-clause-ok
returns-then-is_empty-clause-ok g c =
    let m = c.self.inside in
    rw (← c.self.view_is)
    (on_ok_weaker c.push.result
    (λ h. rw h
    (put_next m.low.entries m.first m.ordered m.rest.entries c.self.invariant
    c.args.number c.args.value (search (rules, c.if-is_empty.ensures))
    (omega (arith, c.len.ensures.value)))) c.push.ensures.ok)

pub returns-then-is_empty-clause-absent : goal.returns-then-is_empty-clause-absent
returns-then-is_empty-clause-absent g c =
    let m = c.self.inside in
    rw (← c.self.view_is)
    (on_err_weaker c.push.result
    (λ same narrow. next_is_none m.low.entries m.first m.ordered m.rest.entries c.self.invariant
    c.args.number (search (rules, c.if-is_empty.ensures))
    (omega (arith, c.len.ensures.value))) c.push.ensures.err)
