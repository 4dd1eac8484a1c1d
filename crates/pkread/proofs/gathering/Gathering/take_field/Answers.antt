-- If the first read of a field fails, the instruction lacks the whole field; if it brings a part,
-- the rest is taken behind that.
use Rattle.std.proofs.Common.{◌≡◌, ◌∙◌, ◌-◌, ◌<◌, ◌≤◌, length, take, ap, arith}
use Rattle.std.proofs.Common.{refl, subst}
use Rattle.std.proofs.lemmas.Result.{err_from_is_err_and}
use Rattle.pkread.proofs.Bytes.Taken.{lacks_all, takes_rest}
use Rattle.pkread.specs.Private.Progress.{Intake, intake}
use Rattle.pkread.specs.Private.Reads.{Took}
use Rattle.pkread.specs.Rows.{all_bytes, sight}
use Rattle.pkread.proofs.gathering.Gathering.take_field.Goals as goal

pub returns-in_err-n-clause-takes : goal.returns-in_err-n-clause-takes
returns-in_err-n-clause-takes g c =
    let p = err_from_is_err_and c.from_residual.result c.from_residual.ensures.1 in
    let none = c.in_err-n.ensures in
    let some : 0 < g.row.N = c.requires.some in
    let left = c.if-room.false in
    let room : all_bytes - c.self.inside.room < all_bytes = omega arith in
    let here = subst (λ v. v.taken < all_bytes) c.self.view_is room in
    rw (p.1, p.2) (lacks_all g.row.N _ _ _ some here none.same none.taken none.err)

pub returns-clause-takes : goal.returns-clause-takes
returns-clause-takes g c =
    let n = c.in_ok-n.n in
    let read = c.in_ok-n.ensures.ok in
    let within : n ≤ g.row.N = read.within in
    let count : length read.bytes ≡ n = read.count in
    let before : all_bytes - c.self.inside.room ≡ c.args.self.now.taken
    = ap (λ v. v.taken) c.self.view_is in
    let middle : Intake = record {
      bytes = take c.self-2.inside.held c.self-2.inside.store.items;
      source = sight g.R.Source.left g.R.Source.failures c.read_field.new.source;
      taken = all_bytes - (c.self.inside.room - n);
    } in
    let took : Took read.bytes
    (intake g.R.Source.left g.R.Source.failures c.args.source.now c.args.self.now) middle
    = record {
      fit = read.fit;
      held = ap (λ v. v.buffer.bytes) c.self-2.view_is ∙ read.held;
      source = read.taken;
      count = omega (arith, within, count, before);
    } in
    takes_rest g.row.N n (g.row.N - n) read.bytes _ middle _ took count within refl
    c.take_rest-2.result c.take_rest-2.ensures.takes
