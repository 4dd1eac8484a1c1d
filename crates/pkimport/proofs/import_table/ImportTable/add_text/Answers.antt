-- A text at the end moves no earlier one, so listed imports name the same pairs.
use Rattle.std.proofs.Common.{[], ◌∷◌}
use Rattle.std.proofs.lemmas.Result.{on_ok_weaker}
use Rattle.pkimport.proofs.Errs.{on_each}
use Rattle.pkimport.proofs.NotedImports.{are_grown, asked_grown, same_table}
use Rattle.pkimport.proofs.import_table.ImportTable.add_text.Goals as goal

pub invariant_of-self : goal.invariant_of-self
invariant_of-self c =
    on_each c.push.result
    (λ h. are_grown c.self.inside.texts c.push.new.self c.self.inside.written c.self.inside.written
    (record { more = c.args.text.now ∷ []; is = h })
    (same_table c.self.inside.written) c.self.inside.entries.items c.self.invariant)
    (λ h. rw h c.self.invariant) c.push.ensures.ok c.push.ensures.err

pub returns-clause-ok : goal.returns-clause-ok
returns-clause-ok c =
    rw (← c.self.view_is)
    (on_ok_weaker c.push.result
    (λ h.
    let same = asked_grown c.self.inside.texts c.push.new.self c.self.inside.written
    c.self.inside.written (record { more = c.args.text.now ∷ []; is = h })
    (same_table c.self.inside.written) c.self.inside.entries.items c.self.invariant in
    λ i. record { texts = h i; asked = same i })
    c.push.ensures.ok)
