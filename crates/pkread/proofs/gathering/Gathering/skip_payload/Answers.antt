-- A payload ends at once if it is empty, after one block if that holds it, or after the rest.
use Rattle.std.proofs.Common.{ap, refl}
use Rattle.pkread.specs.Private.Progress.{intake}
use Rattle.pkread.proofs.Bytes.Skipped.{block_over, skips_block, skips_none, skips_rest}
use Rattle.pkread.proofs.gathering.Gathering.skip_payload.Goals as goal

pub returns-then-count-eq0-clause-skips : goal.returns-then-count-eq0-clause-skips
returns-then-count-eq0-clause-skips g c = skips_none _ _ c.if-count-eq0.true

pub returns-then-n-count-clause-skips : goal.returns-then-n-count-clause-skips
returns-then-n-count-clause-skips g c =
    let still = ap (λ v. v.taken) c.cut.ensures in
    let new = intake g.R.Source.left g.R.Source.failures c.take_block.new.source c.cut.new.self in
    skips_block c.args.count c.in_ok-n.n _ _ new c.in_ok-n.ensures.takes refl still
    c.if-n-count.true

pub returns-clause-skips : goal.returns-clause-skips
returns-clause-skips g c =
    let b = c.in_ok-n.ensures.takes in
    let still = ap (λ v. v.taken) c.cut.ensures in
    let mid = intake g.R.Source.left g.R.Source.failures c.take_block.new.source c.cut.new.self in
    let new = intake g.R.Source.left g.R.Source.failures c.skip_rest.new.source
    c.skip_rest.new.self in
    skips_rest c.args.count c.in_ok-n.n _ b.bytes _ mid new c.skip_rest.result
    (block_over c.args.count c.in_ok-n.n _ _ mid b refl still) b.count b.within refl
    c.skip_rest.ensures.skips
