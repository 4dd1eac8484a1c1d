-- Only entries in use are shown, so replacing one in the store replaces the one shown.
use Rattle.std.proofs.Common.{◌≡◌, length, take, ap, arith}
use Rattle.std.proofs.Math.Seq.{take-set-lt}
use Rattle.std.proofs.lemmas.List.{length-take-le}
use Rattle.pkbase.proofs.stack_vec.StackVec.set.Goals as goal

pub returns : goal.returns
returns g c =
    let is : length (take c.self.inside.count c.self.inside.store.items) ≡ length c.args.self.now =
    ap length c.self.view_is in
    let long = length-take-le c.self.inside.count c.self.inside.store.items c.self.invariant in
    rw (← c.self.view_is)
    (take-set-lt c.self.inside.count c.self.inside.store.items c.args.index c.args.entry
    (omega (arith, is, long, c.requires)))
