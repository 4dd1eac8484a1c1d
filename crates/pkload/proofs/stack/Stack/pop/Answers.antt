-- Above the topmost mark the last code is that of an object.
use Rattle.std.proofs.Common.{◌∷◌, ◌-◌, ◌∙◌, ap, arith, sym, take}
use Rattle.pkload.proofs.Slots.{object_popped}
use Rattle.pkload.specs.Private.Shown.{entries_of}
use Rattle.pkload.proofs.stack.Stack.pop.Goals as goal

pub returns-then-before-self-clause-ok : goal.returns-then-before-self-clause-ok
returns-then-before-self-clause-ok c =
    let codes = c.self.inside.codes in
    let fence = c.self.inside.fence in
    let p = object_popped fence codes
    (omega (arith, c.if-before-self.true, c.len-before.ensures.value)) in (
      p.0,
      sym c.self.view_is
          ∙ p.1
          ∙ ap (λ l. p.0 ∷ entries_of fence l)
          (ap (λ n. take (n - 1) codes) (sym c.len-before.ensures.value)
          ∙ sym c.truncate.ensures),
    )
