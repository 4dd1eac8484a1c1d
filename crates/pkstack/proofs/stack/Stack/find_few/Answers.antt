-- One to three objects on top of the slots are as many items on top of the stack.
use Rattle.pkstack.proofs.Places.{few_from}
use Rattle.pkstack.proofs.stack.Stack.find_few.Goals as goal

pub returns : goal.returns
returns g c = few_from c.args.count c.few_objects.result c.self.inside.slots c.args.self.now
    c.self.view_is (rw c.entries.ensures at c.few_objects.ensures)
