-- Unknown settings are a fault of usage, so a yes and a no are always told of known ones.
use Rattle.std.proofs.Common.{rules}
use Rattle.pkguard.proofs.listing.pkguard_imports_loading.Goals as goal
use Rattle.pkguard.proofs.listing.pkguard_imports_loading.Goals.{in-None, in-Some}

pub returns-clause-answer : goal.returns-clause-answer
returns-clause-answer c = elim c.match-old_strings_with.branch [
  | in-None w ↦ rw (w.listing-is, w.room-is) (search rules)
  | in-Some w ↦ rw (w.listing-is, w.room-is) (search (
    rules,
    w.listing_by-listing.ensures.yes,
    w.listing_by-listing.ensures.no,
    w.listing_by-listing.ensures.bound,
  ))
]
