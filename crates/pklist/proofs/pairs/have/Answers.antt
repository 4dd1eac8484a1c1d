-- What a binary search finds, the array has.
use Rattle.std.proofs.Common.{◌≡◌, true, ◌∙◌, sym}
use Rattle.pklist.proofs.BinarySearch.{found_is_had}
use Rattle.pklist.proofs.pairs.have.Goals as goal

pub returns-then-found : goal.returns-then-found
returns-then-found c =
    let is : c.found.result ≡ true = c.if-found.true in
    is
    ∙ sym (found_is_had c.args.pairs.now c.args.module_name.now c.args.name.now
    (sym c.found.ensures ∙ is))
