-- Behind the numbers from before stand those of the slots passed.
use Rattle.std.proofs.Common.{◌≡◌, ◌++◌, take}
use Rattle.pkjson.specs.Private.Seen.{numbers_of}
use Rattle.pkjson.proofs.slots.add_numbers.Given as goal

abbrev pub invariant-loop-slot : goal.invariant-loop-slot
invariant-loop-slot l = l.found.items ≡ l.fn.found.items ++ numbers_of (take l.slot-index l.slots)
