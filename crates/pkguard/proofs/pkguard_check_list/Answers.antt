-- Unknown settings are a fault of usage, and so is a list with costs under known ones.
use Rattle.std.proofs.Common.{rules}
use Rattle.pkguard.proofs.pkguard_check_list.Goals as goal
use Rattle.pkguard.proofs.pkguard_check_list.Goals.{in-None, in-Some}

pub returns : goal.returns
returns c = record {
  answer = elim c.match-old_strings_in.branch [
    | in-None w ↦ search rules
    | in-Some w ↦ search rules
  ];
}
