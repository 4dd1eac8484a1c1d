-- A spelled pair becomes two written names, which its entry finds whatever the texts are.
use Rattle.pkimport.proofs.import_table.enter.Goals as goal

pub returns-in_ok-write_pair-in-Written-clause-ok :
    goal.returns-in_ok-write_pair-in-Written-clause-ok
returns-in_ok-write_pair-in-Written-clause-ok c = λ ts.
    let ok = c.in_ok-write_pair-in-Written.ensures.ok ts in
    (rw c.in-Written.is ok.1, λ named. ok.0)
