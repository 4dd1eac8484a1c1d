-- With every import permitted, a refusal tells the imports before it, and has no pair.
use Rattle.pkguard.proofs.Unpaired.{told_before}
use Rattle.pkguard.proofs.imported.Goals as goal

pub returns-in-Err-clause-no : goal.returns-in-Err-clause-no
returns-in-Err-clause-no c is =
    told_before c.requires c.new-source.ensures c.in-Err.ensures.answer
    c.of_no_with_imports.ensures.told c.of_no_with_imports.ensures.place
    c.give_imports-in-Err.ensures.wanted c.give_imports-in-Err.ensures.room
