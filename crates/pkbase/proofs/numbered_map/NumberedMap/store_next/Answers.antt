-- Where only the row follows the numbers below it, the number of entries is the one behind the row.
use Rattle.std.proofs.Common.{◌≡◌, rules, arith, length}
use Rattle.std.proofs.lemmas.Result.{on_err_weaker, on_ok_weaker}
use Rattle.pkbase.proofs.Entries.{entries, length-entries, next_is_none, put_next}
use Rattle.pkbase.proofs.numbered_map.NumberedMap.store_next.Goals as goal

pub returns-then-is_empty-clause-ok : goal.returns-then-is_empty-clause-ok
returns-then-is_empty-clause-ok g c =
    let m = c.self.inside in
    let none : length m.rest.entries ≡ 0 = search (rules, c.if-is_empty.ensures) in
    rw (← c.self.view_is)
    (on_ok_weaker c.push.result
    (λ h. rw h
    (put_next m.low.entries m.first m.ordered m.rest.entries c.self.invariant
    (length (entries m.low.entries m.first m.ordered m.rest.entries)) c.args.value none
    (omega (
      arith,
      length-entries m.low.entries m.first m.ordered m.rest.entries,
      c.len.ensures.len,
      c.from.ensures,
      c.if-len-from.true,
      none,
    )))) c.push.ensures.ok)

pub returns-then-is_empty-clause-absent : goal.returns-then-is_empty-clause-absent
returns-then-is_empty-clause-absent g c =
    let m = c.self.inside in
    let none : length m.rest.entries ≡ 0 = search (rules, c.if-is_empty.ensures) in
    rw (← c.self.view_is)
    (on_err_weaker c.push.result
    (λ same narrow. next_is_none m.low.entries m.first m.ordered m.rest.entries c.self.invariant
    (length (entries m.low.entries m.first m.ordered m.rest.entries)) none
    (omega (
      arith,
      length-entries m.low.entries m.first m.ordered m.rest.entries,
      c.len.ensures.len,
      c.from.ensures,
      c.if-len-from.true,
      none,
    ))) c.push.ensures.err)
