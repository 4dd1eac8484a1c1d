-- A slice shows all that it has left, and what is taken goes from its front.
use Rattle.std.proofs.Common.{refl, sym, ap, ◌∙◌, arith, append-nil, [], length, Some}
use Rattle.pkread.proofs.source.MemorySource.TheImpl.Goals as goal

pub ahead-tells : goal.ahead-tells
ahead-tells g c = record {
  first = ([], sym c.ensures ∙ sym (append-nil c.result.now));
  within = omega (arith, ap length c.ensures);
}

pub advance-tells : goal.advance-tells
advance-tells g c = record { took = ap Some c.ensures; count = refl }
