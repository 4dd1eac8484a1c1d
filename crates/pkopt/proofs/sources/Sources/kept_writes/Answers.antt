-- Marking first what early reads read and then what late ones do marks all that is read.
use Rattle.std.proofs.Common.{subst}
use Rattle.pkopt.specs.Private.Passes.{AreKept}
use Rattle.pkopt.specs.Private.Sourced.{Sourced}
use Rattle.pkopt.proofs.MemoWrites.EarlyReads.{keeps_all}
use Rattle.pkopt.proofs.sources.Sources.kept_writes.Goals as goal

pub returns : goal.returns
returns c =
    let none = c.new-kept.result.items in
    let some = c.keep_early.new.kept.items in
    let all = c.keep_late.new.kept.items in
    subst (λ (s : Sourced). AreKept s.items all) c.self.view_is
    (keeps_all none some all c.self.inside.early.items c.self.inside.late.items
    c.new-kept.ensures.items (rw c.deref.ensures.value at c.in_ok-keep_early.ensures)
    (rw c.deref-2.ensures.value at c.in_ok-keep_late.ensures))
