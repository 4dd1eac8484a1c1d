-- The members taken and those left in the map are all its values, in order of their keys.
use Rattle.std.proofs.Common.{◌≡◌, ◌++◌}
use Rattle.pkjson.proofs.ranks.Ranks.members.Given as goal

abbrev pub invariant-loop-member : goal.invariant-loop-member
invariant-loop-member l = l.members.items ++ l.member-iterator ≡ l.initial.member-iterator
