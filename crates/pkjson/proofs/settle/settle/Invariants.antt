-- The objects passed are settled, each dict with its members at its place.
use Rattle.std.proofs.Common.{take}
use Rattle.pkjson.specs.Private.Seen.{kept_all}
use Rattle.pkjson.proofs.DictKeys.DictsAdded.{SettledTo}
use Rattle.pkjson.proofs.settle.settle.Given as goal

abbrev pub invariant-loop-object : goal.invariant-loop-object
invariant-loop-object l = SettledTo (kept_all l.objects)
    (take l.object-index l.objects) l.dicts.items l.places.items
