-- Unknown settings are a fault of usage, so a yes and a no are always told of known ones.
use Rattle.std.proofs.Common.{rules}
use Rattle.pkguard.proofs.costing.pkguard_check_within.Goals as goal
use Rattle.pkguard.proofs.costing.pkguard_check_within.Goals.{in-None, in-Some}

pub returns-clause-answer : goal.returns-clause-answer
returns-clause-answer c = elim c.match-old_strings_with.branch [
  | in-None w ↦ search rules
  | in-Some w ↦ search rules
]
