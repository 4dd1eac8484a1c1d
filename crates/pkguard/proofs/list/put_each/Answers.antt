-- Each turn writes what one more name of the module adds.
use Rattle.std.proofs.Common.{◌++◌, sym}
use Rattle.toml.specs.View.{view}
use Rattle.pkguard.specs.Encoding.{encoded_all}
use Rattle.pkguard.specs.Listed.{pair_in}
use Rattle.pkguard.proofs.Pieces.{each_step, written_both}
use Rattle.pkguard.proofs.list.put_each.Goals as goal

pub loop-name-preserved : goal.loop-name-preserved
loop-name-preserved c =
    let m = c.args.module_name.now in
    let (done, left, written) = c.loop-name.invariant in (
      done ++ encoded_all (pair_in m (view c.name-item.result)),
      each_step m c.args.names.now.items c.loop-name.name-index c.name-item.result
          c.name-item.result done _
          (rw c.deref-name-items.ensures.value at c.loop-name-test.true)
          (sym (rw c.deref-name-items.ensures.value at c.name-item.is)) left,
      λ front before h. written_both front done (encoded_all (pair_in m (view c.name-item.result)))
          before _ _
          (c.put_name-next.ensures (front ++ done) before (written front before h)),
    )
