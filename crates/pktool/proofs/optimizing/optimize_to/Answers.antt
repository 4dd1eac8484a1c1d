-- The line has the length taken and that of the form, which was put in the place.
use Rattle.std.proofs.Common.{length, subst}
use Rattle.std.specs.Io.KnownBytes.{Appends}
use Rattle.pktool.specs.Optimized.{sizes_line}
use Rattle.pktool.proofs.optimizing.optimize_to.Goals as goal

pub returns-in_ok-write_sizes-in-Ok-clause-ends : goal.returns-in_ok-write_sizes-in-Ok-clause-ends
returns-in_ok-write_sizes-in-Ok-clause-ends g c =
    let form = c.in-Ok.form in
    let before = g.W.Write.contents c.args.out.now in
    let after = g.W.Write.contents c.write_sizes.new.out in
    record {
      form = form.bytes;
      optimizes = c.in-Ok.ensures.ok;
      taken = form.taken;
      takes = c.in-Ok.ensures.taken;
      put = c.in-Ok-put.ensures;
      line = subst (λ n. Appends before after (sizes_line n (length form.bytes))) c.taken.ensures
          (subst (λ n. Appends before after (sizes_line c.taken.result n)) c.len.ensures
          c.in_ok-write_sizes-in-Ok.ensures);
    }
