-- A source marks its write once the list reaches it, and a read without a source marks none.
use Rattle.std.proofs.Common.{arith, sym, ◌∙◌, ◌+◌}
use Rattle.pkopt.proofs.MemoWrites.EarlyReads.{keeps_late, keeps_none}
use Rattle.pkopt.proofs.sources.keep_late.Goals as goal
use Rattle.pkopt.proofs.sources.keep_late.Goals.{in-Some+in_ok-reach, in_default}

pub loop-source-preserved : goal.loop-source-preserved
loop-source-preserved c =
    let first = c.args.kept.now.items in
    let late = c.args.late.now in
    let k = c.loop-source.source-index in
    let before = c.loop-source.invariant.marked in
    elim c.match-number.branch [
      | in-Some+in_ok-reach w ↦
          rw w.kept-is (record {
            marked = keeps_late first c.loop-source.kept.items w.reach.new.kept.items late (k + 1) k
                w.in-Some.write c.source-item.result (omega arith) c.loop-source-test.true
                (sym c.source-item.is ∙ sym c.number.ensures ∙ w.in-Some.is)
                w.in_ok-reach.ensures.same w.in_ok-reach.ensures.there before;
          })
      | in_default w ↦
          rw w.kept-is (record {
            marked = keeps_none first c.loop-source.kept.items late (k + 1) k c.source-item.result
                (omega arith) c.loop-source-test.true
                (sym c.source-item.is ∙ sym c.number.ensures ∙ w.in_default.is) before;
          })
    ]
