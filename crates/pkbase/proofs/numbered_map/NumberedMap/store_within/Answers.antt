-- The next number adds one entry, so it is refused exactly at the limit.
use Rattle.std.proofs.Common.{is_some, ap, refl, arith}
use Rattle.std.proofs.lemmas.Result.{on_ok_weaker}
use Rattle.pkbase.proofs.Stored.{at_most_one_more, if_absent, one_more}
use Rattle.pkbase.proofs.numbered_map.NumberedMap.store_within.Goals as goal

pub returns-then-len-most-clause-full : goal.returns-then-len-most-clause-full
returns-then-len-most-clause-full g c same =
    let more = one_more c.args.self.now c.args.number c.args.value c.len.ensures.rising
    (ap is_some (c.if-is_next.ensures refl)) in
    let full = c.if-len-most.true in
    omega (arith, more, full, c.len.ensures.value)

pub returns-then-is_next-clause-room : goal.returns-then-is_next-clause-room
returns-then-is_next-clause-room g c =
    let more = at_most_one_more c.args.self.now c.args.number c.args.value c.len.ensures.rising in
    let room = c.if-len-most.false in
    on_ok_weaker c.store_allowed.result
    (λ h. rw h (omega (arith, more, room, c.len.ensures.value))) c.store_allowed.ensures.ok

pub returns-then-is_next-clause-memory : goal.returns-then-is_next-clause-memory
returns-then-is_next-clause-memory g c =
    let more = at_most_one_more c.args.self.now c.args.number c.args.value c.len.ensures.rising in
    let room = c.if-len-most.false in
    if_absent c.store_allowed.result c.store_allowed.ensures.absent
    (λ absent why same narrow. (absent narrow, omega (arith, more, room, c.len.ensures.value)))
