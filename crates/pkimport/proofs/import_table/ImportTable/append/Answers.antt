-- Copied imports refer to written names only, so they can stand behind those already listed.
use Rattle.std.proofs.Common.{◌++◌, ◌∙◌, ap, map}
use Rattle.pkimport.specs.Private.Entries.{entry_asked}
use Rattle.pkimport.proofs.Copies.{are_behind, asked_behind}
use Rattle.pkimport.proofs.Errs.{on_err}
use Rattle.pkimport.proofs.NotedImports.{are_written, asked_written}
use Rattle.pkimport.proofs.import_table.ImportTable.append.Goals as goal

pub invariant_of-self : goal.invariant_of-self
invariant_of-self c = are_written c.self.inside.texts c.copy_entries.ensures.grows
    c.self.inside.entries.items c.self.invariant

pub invariant_of-self-in_err-append : goal.invariant_of-self-in_err-append
invariant_of-self-in_err-append c = rw c.in_err-append.ensures.items
    (are_written c.self.inside.texts c.copy_entries.ensures.grows
    c.self.inside.entries.items c.self.invariant)

pub invariant_of-self-2 : goal.invariant_of-self-2
invariant_of-self-2 c = rw c.in_ok-append.ensures.items
    (are_behind c.self.inside.texts c.self.inside.written c.copy_entries.new.written
    c.self.inside.entries.items c.in_ok-entries.entries.items c.copy_entries.ensures.grows
    c.self.invariant c.in_ok-entries.ensures.ok.0)

pub returns-in_err-entries-clause-err : goal.returns-in_err-entries-clause-err
returns-in_err-entries-clause-err c =
    let same = asked_written c.self.inside.texts c.copy_entries.ensures.grows
    c.self.inside.entries.items c.self.invariant in
    on_err c.from_residual.result
    (rw (← c.self.view_is) (λ i. record { texts = c.self.inside.texts; asked = same i }))

pub returns-in_err-append-clause-err : goal.returns-in_err-append-clause-err
returns-in_err-append-clause-err c =
    let same = asked_written c.self.inside.texts c.copy_entries.ensures.grows
    c.self.inside.entries.items c.self.invariant in
    on_err c.from_residual-in_err-append.result
    (rw (← c.self.view_is, c.in_err-append.ensures.items)
    (λ i. record { texts = c.self.inside.texts; asked = same i }))

pub returns-clause-ok : goal.returns-clause-ok
returns-clause-ok c =
    let behind = asked_behind c.self.inside.texts c.self.inside.written c.copy_entries.new.written
    c.self.inside.entries.items c.in_ok-entries.entries.items c.copy_entries.ensures.grows
    c.self.invariant c.in_ok-entries.ensures.ok.0 in
    let others = c.in_ok-entries.ensures.ok.1 ∙ ap
    (map (entry_asked c.other.inside.texts c.other.inside.written)) c.deref.ensures.value in
    rw (← c.self.view_is, ← c.other.view_is, c.in_ok-append.ensures.items)
    (λ i. record {
      texts = c.self.inside.texts;
      asked =
          (behind
          ∙ ap
          (λ l. map (entry_asked c.self.inside.texts c.self.inside.written)
          c.self.inside.entries.items ++ l) others) i;
    })
