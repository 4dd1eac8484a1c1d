-- Each object passed has a note, and a position noted is where its text stands.
use Rattle.std.proofs.Common.{◌≡◌, length}
use Rattle.pkjson.specs.Private.Ranks.{ArePlaces}
use Rattle.pkjson.specs.Private.Seen.{kept_all}
use Rattle.pkjson.proofs.ranks.places_of.Given as goal

abbrev pub invariant-loop-number : goal.invariant-loop-number
invariant-loop-number l = (length l.places.items ≡ l.number)
    × ArePlaces l.texts (kept_all l.objects) l.places.items
