-- If bytes are held, the first of them is the first of the store.
use Rattle.std.proofs.Common.{◌∙◌, sym, ap}
use Rattle.pkread.proofs.Bytes.Taken.{first_held}
use Rattle.pkread.proofs.gathering.Gathering.first.Goals as goal

pub returns-clause-some : goal.returns-clause-some
returns-clause-some c =
    let p = first_held c.self.inside.held c.index.result.now c.self.inside.store.items
    c.if-self-eq0.false c.self.invariant c.index.ensures in
    (p.0, sym (ap (λ v. v.buffer.bytes) c.self.view_is) ∙ p.1)
