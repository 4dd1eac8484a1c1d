-- A text noted as copied is found under its note; any other is written once and noted.
use Rattle.std.proofs.Common.{◌∙◌, None, refl, rules, sym}
use Rattle.std.proofs.lemmas.List.{get_or_default}
use Rattle.pkimport.proofs.Copies.{copies_more}
use Rattle.pkimport.proofs.NotedImports.{same_table}
use Rattle.pkimport.proofs.import_table.copy_text.Goals as goal

pub returns-in-Some-clause-ok : goal.returns-in-Some-clause-ok
returns-in-Some-clause-ok c = c.requires.copies c.args.number c.in-Some.copy
    (get_or_default c.args.copies.now.items c.args.number None c.index.result.now c.requires.number
    ∙ (sym c.index.ensures ∙ c.in-Some.is))

pub returns-in_err-copy-clause-kept : goal.returns-in_err-copy-clause-kept
returns-in_err-copy-clause-kept c =
    rw c.in_err-copy.ensures.err.0 (record {
      copies = c.requires.copies;
      count = refl;
      grows = same_table c.args.written.now;
    })

pub returns-clause-kept : goal.returns-clause-kept
returns-clause-kept c =
    let ok = c.in_ok-copy.ensures.ok in
    rw (ok.0, ok.1, c.get.ensures) (record {
      copies = copies_more c.args.copies.now.items c.args.texts.now c.args.written.now
          c.args.number c.requires.copies;
      count = search rules;
      grows = record { more = _; is = refl };
    })
