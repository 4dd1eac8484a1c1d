-- The lines of the imports and then the line of the answer are what is appended.
use Rattle.std.proofs.Common.{rules}
use Rattle.pkcheck.specs.Appended.{appends_then}
use Rattle.pkprint.proofs.importing.imports_to.Goals as goal

pub returns-in-Ok : goal.returns-in-Ok
returns-in-Ok g c =
    let imports = c.in_ok-write_imports.ensures in
    let verdict = c.in_ok-write_verdict.ensures in (
      c.check-answer.result,
      c.check-answer.ensures.answer,
      c.check-answer.ensures.count,
      search appends_then,
      search rules,
    )
