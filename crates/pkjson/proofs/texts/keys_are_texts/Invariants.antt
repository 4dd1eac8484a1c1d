-- All keys are texts exactly if those among the slots left are, counted on in turn.
use Rattle.std.proofs.Common.{◌≡◌, true, drop}
use Rattle.pkjson.specs.Private.Arena.{are_text_kinds}
use Rattle.pkjson.specs.Plain.{every_other}
use Rattle.pkjson.specs.Private.Seen.{kept_all, numbers_of}
use Rattle.pkjson.proofs.texts.keys_are_texts.Given as goal

abbrev pub invariant-loop-slot : goal.invariant-loop-slot
invariant-loop-slot l = are_text_kinds (kept_all l.objects) (every_other true (numbers_of l.slots))
    ≡ are_text_kinds (kept_all l.objects)
    (every_other l.is_key (numbers_of (drop l.slot-index l.slots)))
