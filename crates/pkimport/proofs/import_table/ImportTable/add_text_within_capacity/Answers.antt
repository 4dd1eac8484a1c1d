-- A text at the end moves no earlier one, so listed imports name the same pairs.
use Rattle.std.proofs.Common.{[], ◌∷◌, inl, inr}
use Rattle.std.proofs.lemmas.Bool.{cases_Bool}
use Rattle.pkimport.proofs.NotedImports.{are_grown, asked_grown, same_table}
use Rattle.pkimport.proofs.import_table.ImportTable.add_text_within_capacity.Goals as goal

pub invariant_of-self : goal.invariant_of-self
invariant_of-self c =
    elim (cases_Bool c.push_within_capacity.result) [
      | inl h ↦ are_grown c.self.inside.texts c.push_within_capacity.new.self
          c.self.inside.written c.self.inside.written
          (record { more = c.args.text.now ∷ []; is = c.push_within_capacity.ensures.pushed h })
          (same_table c.self.inside.written) c.self.inside.entries.items c.self.invariant
      | inr h ↦ rw (c.push_within_capacity.ensures.kept h) c.self.invariant
    ]

pub returns-clause-added : goal.returns-clause-added
returns-clause-added c =
    rw (← c.self.view_is)
    (λ h.
    let more = c.push_within_capacity.ensures.pushed h in
    let same = asked_grown c.self.inside.texts c.push_within_capacity.new.self
    c.self.inside.written c.self.inside.written (record { more = c.args.text.now ∷ []; is = more })
    (same_table c.self.inside.written) c.self.inside.entries.items c.self.invariant in
    λ i. record { texts = more i; asked = same i })
