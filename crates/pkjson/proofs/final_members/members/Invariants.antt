-- The members copied and those still to come are all of the map, in its order.
use Rattle.std.proofs.Common.{◌≡◌, ◌++◌}
use Rattle.pkjson.proofs.final_members.members.Given as goal

abbrev pub invariant-loop-key : goal.invariant-loop-key
invariant-loop-key l = l.members.items ++ l.key-iterator ≡ l.initial.key-iterator
