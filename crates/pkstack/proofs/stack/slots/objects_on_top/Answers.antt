-- All slots above the topmost mark are objects, and a larger count of items isn't on top.
use Rattle.std.proofs.Common.{◌≡◌, ◌-◌, length, suc, arith}
use Rattle.pkstack.proofs.Bars.{last_some, last_none, items_marked, items_few}
use Rattle.pkstack.proofs.stack.slots.objects_on_top.Goals as goal

pub overflow_sub-result : goal.overflow_sub-result
overflow_sub-result g c = let w =
    (last_some c.args.stack.now c.in-Some.place.now
    (rw c.requires at c.in-Some.ensures.value)).within in omega (arith, w)

pub overflow_sub-result-in-Some : goal.overflow_sub-result-in-Some
overflow_sub-result-in-Some g c = let w =
    (last_some c.args.stack.now c.in-Some.place.now
    (rw c.requires at c.in-Some.ensures.value)).within in omega (arith, w)

pub returns-in-Some-clause-objects : goal.returns-in-Some-clause-objects
returns-in-Some-clause-objects g c =
    let t = last_some c.args.stack.now c.in-Some.place.now
    (rw c.requires at c.in-Some.ensures.value) in
    let w = t.within in
    let e : length c.args.stack.now - (length c.args.stack.now - c.in-Some.place.now - 1)
    ≡ suc c.in-Some.place.now = omega (arith, w) in
    rw e t.above

pub returns-in-Some-clause-others : goal.returns-in-Some-clause-others
returns-in-Some-clause-others g c count h = items_marked c.args.stack.now c.in-Some.place.now count
    (last_some c.args.stack.now c.in-Some.place.now (rw c.requires at c.in-Some.ensures.value)) h

pub returns-in-None-clause-objects : goal.returns-in-None-clause-objects
returns-in-None-clause-objects g c =
    let e : length c.args.stack.now - length c.args.stack.now ≡ 0 = omega arith in
    rw e (last_none c.args.stack.now (rw c.requires at c.in-None.ensures.value))

pub returns-in-None-clause-others : goal.returns-in-None-clause-others
returns-in-None-clause-others g c count h = items_few c.args.stack.now count
    (last_none c.args.stack.now (rw c.requires at c.in-None.ensures.value)) h
