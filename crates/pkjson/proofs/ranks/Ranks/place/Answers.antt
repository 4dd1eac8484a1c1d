-- The position noted for an object is where its text stands in the list.
use Rattle.std.proofs.Common.{arith}
use Rattle.pkjson.specs.Private.Seen.{kept_all}
use Rattle.pkjson.proofs.DictKeys.KeyPlaces.{place_at}
use Rattle.pkjson.proofs.ranks.Ranks.place.Goals as goal

pub returns-then-number-len : goal.returns-then-number-len
returns-then-number-len c =
    rw c.index.ensures (place_at c.args.self.now.texts.items (kept_all c.args.self.now.objects.now)
    c.args.self.now.places.items c.requires.places c.args.number c.index.result.now (omega arith))
