-- The map pairs the positions of the keys passed with the members that stand so far.
use Rattle.std.proofs.Common.{◌-◌, length}
use Rattle.pkjson.specs.Private.Seen.{kept_all}
use Rattle.pkjson.proofs.DictKeys.KeyPlaces.{Pairing}
use Rattle.pkjson.proofs.ranks.Ranks.pairs.Given as goal

abbrev pub invariant-loop-index : goal.invariant-loop-index
invariant-loop-index l = Pairing l.self.texts.items (kept_all l.self.objects.now)
    (length l.self.objects.now) l.given l.index l.pairs.entries

abbrev pub decreases-loop-index : goal.decreases-loop-index
decreases-loop-index l = length l.given - l.index
