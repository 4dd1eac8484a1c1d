-- Of a field pulled into an array, the bytes that came are appended to those held.
use Rattle.std.proofs.Common.{◌≡◌, ◌<◌, length, arith, ap}
use Rattle.pkread.proofs.Bytes.Taken.{field_reads}
use Rattle.pkread.proofs.gathering.Gathering.read_field.Goals as goal

pub returns-clause-ok : goal.returns-clause-ok
returns-clause-ok g c =
    let some : 0 < c.in_ok-count.count = omega arith in
    let len : length c.pull.new.to ≡ g.row.N = omega arith in
    rw (← ap (λ v. v.buffer.bytes) c.self.view_is) (field_reads c.in_ok-count.count
    c.self.inside.held g.row.N c.self.inside.store.items c.make_room.new.store.items
    c.put_field.new.store.items c.pull.new.to len c.in_ok-make_room.ensures.ok
    c.in_ok-count.ensures.bytes.0 c.put_field.ensures.front _ _ some c.make_room.ensures.same
    c.in_ok-count.ensures.bytes.1 c.in_ok-count.ensures.count c.put_field.ensures.fits)
