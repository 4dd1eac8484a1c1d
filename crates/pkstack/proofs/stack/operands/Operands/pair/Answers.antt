-- Of two operands in all, those at 0 and 1 are the whole list.
use Rattle.std.proofs.Common.{◌≡◌, ◌∙◌, length, subst, sym}
use Rattle.pkstack.proofs.Settled.{both}
use Rattle.pkstack.proofs.stack.operands.Operands.pair.Goals as goal

pub returns : goal.returns
returns g c =
    both c.args.self.now c.in-Some.first c.in-Some-get.second
    (subst (λ ks. length ks ≡ 2) c.self.view_is
    (sym c.count_objects.ensures ∙ c.if-count_objects-ne2.false)) (sym c.in-Some.ensures)
    (sym c.in-Some-get.ensures)
