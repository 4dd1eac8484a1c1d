-- An entry at the end asks for one more pair; a refused allocation leaves the pairs as they were.
use Rattle.std.proofs.Common.{[], ◌∷◌, ◌++◌, ◌∙◌, length, refl, subst, sym}
use Rattle.std.proofs.lemmas.Result.{err_from_is_err_and}
use Rattle.pkimport.specs.Table.{IsNamedIf, Noted}
use Rattle.pkimport.specs.Private.Entries.{entry_asked}
use Rattle.pkimport.proofs.NotedImports.{are_more, are_written, asked_written, map_more}
use Rattle.pkimport.proofs.import_table.ImportTable.list.Goals as goal

pub invariant_of-self : goal.invariant_of-self
invariant_of-self c = are_written c.self.inside.texts c.enter.ensures.grows
    c.self.inside.entries.items c.self.invariant

pub returns-in_err-entry-clause-err : goal.returns-in_err-entry-clause-err
returns-in_err-entry-clause-err c =
    let p = err_from_is_err_and c.from_residual.result c.from_residual.ensures.1 in
    let same = asked_written c.self.inside.texts c.enter.ensures.grows
    c.self.inside.entries.items c.self.invariant in
    rw (p.1, p.2) (
      rw (← c.self.view_is) (λ i. record { texts = c.self.inside.texts; asked = same i }),
      rw c.in-Some.is refl,
      c.in_err-entry.ensures.err,
    )

pub invariant_of-self-in_err-push : goal.invariant_of-self-in_err-push
invariant_of-self-in_err-push c = rw c.in_err-push.ensures.items
    (are_written c.self.inside.texts c.enter.ensures.grows
    c.self.inside.entries.items c.self.invariant)

pub returns-in_err-push-clause-err : goal.returns-in_err-push-clause-err
returns-in_err-push-clause-err c =
    let p = err_from_is_err_and c.from_residual-in_err-push.result
    c.from_residual-in_err-push.ensures.1 in
    let same = asked_written c.self.inside.texts c.enter.ensures.grows
    c.self.inside.entries.items c.self.invariant in
    rw (p.1, p.2) (
      rw (← c.self.view_is, c.in_err-push.ensures.items)
          (λ i. record { texts = c.self.inside.texts; asked = same i }),
      rw c.in-Some.is refl,
      refl,
    )

pub invariant_of-self-2 : goal.invariant_of-self-2
invariant_of-self-2 c =
    let is = subst (λ (n : Noted). IsNamedIf (length n.texts) c.args.named)
    (sym c.self.view_is) c.requires in
    let named = subst (IsNamedIf (length c.self.inside.texts)) c.in-Some.is is in
    let before = are_written c.self.inside.texts c.enter.ensures.grows
    c.self.inside.entries.items c.self.invariant in
    rw c.in_ok-push.ensures.items
    (are_more (length c.self.inside.texts) (length c.enter.new.written)
    c.self.inside.entries.items c.in_ok-entry.entry before
    ((c.in_ok-entry.ensures.ok c.self.inside.texts).1 named))

pub returns-clause-ok : goal.returns-clause-ok
returns-clause-ok c =
    let same = asked_written c.self.inside.texts c.enter.ensures.grows
    c.self.inside.entries.items c.self.invariant in
    let more = map_more (entry_asked c.self.inside.texts c.enter.new.written)
    c.self.inside.entries.items c.in_ok-entry.entry in
    let asks = (c.in_ok-entry.ensures.ok c.self.inside.texts).0 in (
      rw (← c.self.view_is, c.in_ok-push.ensures.items, c.in-Some.is)
          (λ i. record {
            texts = c.self.inside.texts;
            asked = (more ∙ (λ j. same j ++ asks j ∷ [])) i;
          }),
      rw c.in-Some.is refl,
    )
