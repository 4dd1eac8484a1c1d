-- At the limit only a number that is in use may be stored, and then the count stays.
use Rattle.std.proofs.Common.{◌≡◌, true, false, is_some, sym, arith}
use Rattle.std.proofs.lemmas.Result.{on_ok_weaker}
use Rattle.pkbase.proofs.Stored.{as_many, at_most_one_more, if_absent, one_more, recalled}
use Rattle.pkbase.proofs.numbered_map.NumberedMap.store_other_within.Goals as goal

pub returns-then-len-most-clause-room : goal.returns-then-len-most-clause-room
returns-then-len-most-clause-room g c =
    let more = at_most_one_more c.args.self.now c.args.number c.args.value c.len.ensures.rising in
    let room = c.if-len-most.true in
    on_ok_weaker c.store_allowed.result
    (λ h. rw h (omega (arith, more, room, c.len.ensures.value))) c.store_allowed.ensures.ok

pub returns-then-is_none-clause-full : goal.returns-then-is_none-clause-full
returns-then-is_none-clause-full g c same =
    let key = c.in-Ok.ensures.1 in
    let none : is_some (recalled c.args.number c.args.self.now) ≡ false =
    rw (sym key, sym c.get.ensures) c.if-is_none.ensures in
    let more = one_more c.args.self.now c.args.number c.args.value c.len.ensures.rising none in
    let full = c.if-len-most.false in
    omega (arith, more, full, c.len.ensures.value)

pub returns-clause-room : goal.returns-clause-room
returns-clause-room g c =
    let key = c.in-Ok.ensures.1 in
    let some : is_some (recalled c.args.number c.args.self.now) ≡ true =
    rw (sym key, sym c.get.ensures) c.if-is_none.ensures in
    let as_before = as_many c.args.self.now c.args.number c.args.value c.len.ensures.rising some in
    on_ok_weaker c.store_allowed-2.result (λ h. rw h (omega (arith, as_before, c.requires)))
    c.store_allowed-2.ensures.ok

pub returns-then-len-most-clause-memory : goal.returns-then-len-most-clause-memory
returns-then-len-most-clause-memory g c =
    let more = at_most_one_more c.args.self.now c.args.number c.args.value c.len.ensures.rising in
    let room = c.if-len-most.true in
    if_absent c.store_allowed.result c.store_allowed.ensures.absent
    (λ absent why same narrow. (absent narrow, omega (arith, more, room, c.len.ensures.value)))
