-- `SameEnd` clause by clause: reflexive, symmetric, transitive, and what it carries over.
use Rattle.pkcheck.proofs.Wholes.Ends.{listed_carries_over, same_across, same_as_itself}
use Rattle.pkcheck.proofs.Wholes.Ends.{same_either_way, same_events, well_carries_over}
use Rattle.pkcheck.proofs.Wholes.Ends.{well_is_free}
use Rattle.pkcheck.proofs.laws.same_ends.Goals as goal

pub returns-clause-itself : goal.returns-clause-itself
returns-clause-itself c = same_as_itself

pub returns-clause-either_way : goal.returns-clause-either_way
returns-clause-either_way c = same_either_way

pub returns-clause-across : goal.returns-clause-across
returns-clause-across c = same_across

pub returns-clause-events : goal.returns-clause-events
returns-clause-events c = same_events

pub returns-clause-free : goal.returns-clause-free
returns-clause-free c = well_is_free

pub returns-clause-well : goal.returns-clause-well
returns-clause-well c = well_carries_over

pub returns-clause-listed : goal.returns-clause-listed
returns-clause-listed c = listed_carries_over
