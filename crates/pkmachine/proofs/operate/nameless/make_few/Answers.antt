-- So many objects on top have no mark among them, so all marks lie below the lowest one.
use Rattle.std.proofs.Common.{◌∙◌}
use Rattle.pkmachine.proofs.operate.nameless.make_few.Goals as goal

pub replace_all-requires-clause-at : goal.replace_all-requires-clause-at
replace_all-requires-clause-at g c = c.in-Some.ensures.1.there c.requires.some

pub replace_all-requires-clause-marks : goal.replace_all-requires-clause-marks
replace_all-requires-clause-marks g c = c.marks-marks.ensures ∙ c.in-Some.ensures.1.marks

pub returns-clause-done : goal.returns-clause-done
returns-clause-done g c done = record {
  place = c.in-Some.place;
  item = c.operated-item.result;
  from = c.in-Some.ensures.1;
  made = c.replace_all.ensures;
  given = λ i same. rw c.operands.ensures at (c.operated-item.ensures.item i same);
  after = λ i same. rw c.operands.ensures at (c.operated-item.ensures.state i same);
}
