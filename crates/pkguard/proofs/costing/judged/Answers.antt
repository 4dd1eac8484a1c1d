-- An excess is told with its place.
use Rattle.std.proofs.Common.{inr, refl}
use Rattle.pkguard.proofs.costing.judged.Goals as goal

pub returns-in-Err-clause-no : goal.returns-in-Err-clause-no
returns-in-Err-clause-no c is = inr (record {
  costly = c.in-Err.costly;
  exceeds = rw (c.new-source.ensures) at c.in-Err.ensures.costly;
  told = c.of_excess.ensures.told;
  room = refl;
})
