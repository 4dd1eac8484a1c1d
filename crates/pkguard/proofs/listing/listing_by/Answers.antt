-- A refusal tells the imports before it.
use Rattle.std.proofs.Common.{inl, inr, refl}
use Rattle.pkguard.proofs.listing.listing_by.Goals as goal

pub returns-in-Ok-Err-clause-no : goal.returns-in-Ok-Err-clause-no
returns-in-Ok-Err-clause-no c is = inl (record {
  rest = _;
  refusal = c.in-Ok-Err.refused;
  refused = rw (c.in-Ok-Err.field-0-is, c.new-source.ensures, c.requires) at
      c.in-Ok-Err.ensures.answer;
  told = c.of_no_with_imports.ensures.told;
  asks = c.give_imports-in-Ok-Err.ensures.wanted;
  room = c.give_imports-in-Ok-Err.ensures.room;
})

-- an excess lists nothing
pub returns-in-Err-clause-no : goal.returns-in-Err-clause-no
returns-in-Err-clause-no c is = rw c.empty.ensures (inr (record {
  costly = record {
    costly = c.in-Err.costly;
    exceeds = rw (c.new-source.ensures, c.requires) at c.in-Err.ensures.costly;
    told = c.of_excess.ensures.told;
    room = refl;
  };
  none = refl;
}))
